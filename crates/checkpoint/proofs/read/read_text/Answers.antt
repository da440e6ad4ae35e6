use Rattle.std.proofs.Common.{◌≡◌, ◌≤◌, ◌+◌, ◌++◌, ℕ, List, [], length, take, ◌∙◌, ap, refl, sym, subst, arith}
use Rattle.std.specs.Prelude.{IsOk, Result}
use Rattle.std.specs.Io.KnownBytes.{Consumes}
use Rattle.std.proofs.KnownBytes.{Consumes-trans}
use Rattle.std.proofs.lemmas.List.{length-append}
use Rattle.std.proofs.lemmas.Result.{err_from_is_err_and}
use Rattle.sha2.specs.Sha256.{sha256}
use Rattle.sha2.proofs.Facts256.{length-sha256}
use Rattle.checkpoint.specs.declared.error.KeepError.{KeepError}
use Rattle.checkpoint.specs.Reading.{checkpoint_head_at, seal_form, most_checkpoint_bytes}
use Rattle.checkpoint.proofs.ReaderLemmas.{fails_first, fails_second, text_kept, whole_fine, whole_read, whole_sealed, within-more, within-seal}
use Rattle.checkpoint.proofs.read.read_text.Goals as goal

pub returns-in_err-header-clause-fails : goal.returns-in_err-header-clause-fails
returns-in_err-header-clause-fails g c =
    let part = c.args.part.now in
    let r = err_from_is_err_and c.from_residual.result c.from_residual.ensures.1 in
    rw (r.1, r.2) (fails_first seal_form (most_checkpoint_bytes part part.plan.limit + 1) (omega arith) c.in_err-header.ensures.fails)

pub returns-in_err-read_seal-clause-fails : goal.returns-in_err-read_seal-clause-fails
returns-in_err-read_seal-clause-fails g c =
    let part = c.args.part.now in
    let p = c.in_ok-header.ensures.done.grows in
    let right = c.digest-right.ensures.value p.piece (p.grown.digested [] c.requires.hasher) in
    let r = err_from_is_err_and c.from_residual-in_err-read_seal.result c.from_residual-in_err-read_seal.ensures.1 in
    rw (r.1, r.2) (fails_second seal_form (most_checkpoint_bytes part part.plan.limit + 1) p (omega arith) (c.in_err-read_seal.ensures.fails p.piece right))

pub returns-clause-done : goal.returns-clause-done
returns-clause-done g c =
    let part = c.args.part.now in
    let p = c.in_ok-header.ensures.done.grows in
    let text = p.piece in
    let right = c.digest-right.ensures.value text (p.grown.digested [] c.requires.hasher) in
    let seal = subst (λ (l : List ℕ). Consumes (g.R.Read.remaining c.read_content.new.reader) (g.R.Read.remaining c.read_seal.new.reader) l) right c.in_ok-read_seal.ensures.done in
    record {
      few = record {
        bytes = text ++ sha256 text;
        consumed = Consumes-trans (g.R.Read.remaining c.args.reader.now) (g.R.Read.remaining c.read_content.new.reader) (g.R.Read.remaining c.read_seal.new.reader) text (sha256 text) p.takes.consumed seal;
        few = omega (arith, length-append text (sha256 text), length-sha256 text, p.few);
      };
      end = c.in_ok-read_seal.ensures.end;
      counted = c.in_ok-read_seal.ensures.counted ∙ p.takes.counted;
      whole = whole_read part p (length-sha256 text);
      is_form = λ bytes known. subst (λ (r : Result ℕ KeepError). IsOk r) (sym (whole_fine c.read_seal.new.reader part p seal c.in_ok-read_seal.ensures.end (length-sha256 text) bytes known)) refl;
    }

pub returns-clause-text : goal.returns-clause-text
returns-clause-text g c = λ whole.
    let p = c.in_ok-header.ensures.done in
    let text = p.grows.piece in
    let right = c.digest-right.ensures.value text (p.grows.grown.digested [] c.requires.hasher) in
    let seal = subst (λ (l : List ℕ). Consumes (g.R.Read.remaining c.read_content.new.reader) (g.R.Read.remaining c.read_seal.new.reader) l) right c.in_ok-read_seal.ensures.done in
    let kept = c.digest-right.ensures.bytes ∙ text_kept p.grows.grown c.requires (sym c.digest-right.ensures.whole ∙ whole) in
    record {
      head = p.head ∙ ap (λ (l : List ℕ). checkpoint_head_at (take 54 l)) (sym kept);
      long = subst (λ (l : List ℕ). 54 ≤ length l) (sym kept) p.long;
      is_sealed = λ bytes known. subst (λ (l : List ℕ). bytes ≡ l ++ sha256 l) (sym kept) (whole_sealed c.read_seal.new.reader p.grows seal c.in_ok-read_seal.ensures.end bytes known);
    }

pub returns-in_err-header-clause-within : goal.returns-in_err-header-clause-within
returns-in_err-header-clause-within g c = within-more c.args.part.now _ _ c.in_err-header.ensures.within

pub returns-in_err-read_seal-clause-within : goal.returns-in_err-read_seal-clause-within
returns-in_err-read_seal-clause-within g c =
    let p = c.in_ok-header.ensures.done in
    let text = p.grows.piece in
    let right = c.digest-right.ensures.value text (p.grows.grown.digested [] c.requires.hasher) in
    within-seal c.args.part.now _ _ _ text p.long p.few p.grows.takes.consumed (c.in_err-read_seal.ensures.fails text right).few

pub returns-clause-within : goal.returns-clause-within
returns-clause-within g c =
    let p = c.in_ok-header.ensures.done in
    within-seal c.args.part.now _ _ _ p.grows.piece p.long p.few p.grows.takes.consumed
    (record { bytes = c.digest-right.result; consumed = c.in_ok-read_seal.ensures.done; few = omega arith })

pub returns-clause-front : goal.returns-clause-front
returns-clause-front g c = λ bytes known. c.in_ok-header.ensures.front bytes known

pub returns-clause-checked : goal.returns-clause-checked
returns-clause-checked g c = c.in_ok-header.ensures.checked

pub returns-clause-small : goal.returns-clause-small
returns-clause-small g c = c.in_ok-header.ensures.small
