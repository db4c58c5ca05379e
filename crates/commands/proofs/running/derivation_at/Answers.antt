use Rattle.std.proofs.Common.{inl, inr, sym}
use Rattle.std.proofs.lemmas.Result.{err_from_is_err_and}
use Rattle.commands.proofs.running.derivation_at.Goals as goal

pub returns-clause-derivation : goal.returns-clause-derivation
returns-clause-derivation g c = record {
  bytes = c.in_ok-bytes.bytes;
  proof_read = c.in_ok-bytes.ensures;
  says = rw (sym c.as_slice.ensures.value) c.in_ok-derivation.ensures;
}

pub returns-in_err-derivation-clause-lacks : goal.returns-in_err-derivation-clause-lacks
returns-in_err-derivation-clause-lacks g c =
    let p = err_from_is_err_and c.from_residual-in_err-derivation.result c.from_residual-in_err-derivation.ensures.1 in
    rw p.1 (inr (inl (
      c.in_ok-bytes.bytes,
      c.in_err-derivation.field-0.0,
      c.in_ok-bytes.ensures,
      rw (sym c.as_slice.ensures.value) c.in_err-derivation.ensures,
      p.2,
    )))
