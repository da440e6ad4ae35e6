-- Pieces that are digested one after the other.
use Rattle.std.proofs.Common.{List, ℕ, [], ◌++◌, sym, subst, append_assoc}
use Rattle.std.proofs.lemmas.List.{append-nil}
use Rattle.sha2.specs.declared.Sha256.{Sha256}
use Rattle.sha2.specs.Hashers.{Holds256}
use Rattle.graph.specs.Planning.{Hashes}

pub hashes_then : (a b c : Sha256) (xs ys : List ℕ) → Hashes a b xs → Hashes b c ys → Hashes a c (xs ++ ys)
hashes_then a b c xs ys p q m h = subst (λ (l : List ℕ). Holds256 c l) (append_assoc m xs ys) (q (m ++ xs) (p m h))

pub hashes_none : (a : Sha256) → Hashes a a []
hashes_none a m h = subst (λ (l : List ℕ). Holds256 a l) (sym (append-nil m)) h
