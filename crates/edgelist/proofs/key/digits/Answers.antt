use Rattle.std.proofs.Common.{◌≡◌, ◌∙◌, ◌+◌, ◌*◌, ◌<◌, ◌≤◌, ℕ, List, length, get_or, drop, ap, arith, sym}
use Rattle.std.proofs.lemmas.List.{drop_more, drop_all}
use Rattle.edgelist.specs.Guessing.{bytes_after}
use Rattle.edgelist.proofs.GuessLemmas.{digits-step, digits-fit}
use Rattle.edgelist.proofs.key.digits.Goals as goal

pub overflow_mul-digits : goal.overflow_mul-digits
overflow_mul-digits c = let fit = digits-fit c.loop-byte.byte-index 7 (omega (arith, c.loop-byte-test.true, c.requires)) in search (arith, fit, c.loop-byte.invariant.fits)

pub overflow_add-digits : goal.overflow_add-digits
overflow_add-digits c =
    let fit = digits-fit c.loop-byte.byte-index 7 (omega (arith, c.loop-byte-test.true, c.requires)) in
    let byte = c.type_inv.part c.loop-byte.byte-index in
    search (arith, fit, c.loop-byte.invariant.fits, byte, c.from.ensures)

-- the bytes from a place on, without the first of them
bytes-next : (w i : ℕ) (label : List ℕ) → i < length label → bytes_after w (drop i label) ≡ bytes_after (w * 256 + get_or label i 0) (drop (i + 1) label)
unfolding bytes_after
bytes-next w i label lt = ap (bytes_after w) (drop_more label i 0 lt)

pub loop-byte-preserved : goal.loop-byte-preserved
loop-byte-preserved c = record {
  value = rw c.from.ensures (sym (bytes-next c.loop-byte.digits c.loop-byte.byte-index c.args.part.now (omega (arith, c.loop-byte-test.true))) ∙ c.loop-byte.invariant.value);
  fits = rw c.from.ensures (digits-step c.loop-byte.digits (get_or c.args.part.now c.loop-byte.byte-index 0) c.loop-byte.byte-index c.loop-byte.invariant.fits (omega (arith, c.type_inv.part c.loop-byte.byte-index)));
}

bytes-end : (w i : ℕ) (label : List ℕ) → length label ≤ i → w ≡ bytes_after w (drop i label)
unfolding bytes_after
bytes-end w i label le = rw (drop_all i label le) (let same : w ≡ w = omega arith in same)

pub returns-clause-value : goal.returns-clause-value
returns-clause-value c = bytes-end c.loop-byte.digits c.loop-byte.byte-index c.args.part.now (omega (arith, c.loop-byte-test.false)) ∙ c.loop-byte.invariant.value

pub returns-clause-few : goal.returns-clause-few
returns-clause-few c = λ few. omega (arith, c.loop-byte.invariant.fits, digits-fit c.loop-byte.byte-index 3 (omega (arith, few)))
