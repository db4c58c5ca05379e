use Rattle.std.proofs.Common.{refl}
use Rattle.std.proofs.lemmas.Result.{err_from_is_err_and}
use Rattle.resolver.specs.Inputs.{names_of}
use Rattle.resolver.specs.Inputs.IsCutShort.{after_loading}
use Rattle.resolver.proofs.verifying.verify_bytes_keeping.Goals as goal

pub returns-in_err-verdict-in-Some : goal.returns-in_err-verdict-in-Some
returns-in_err-verdict-in-Some g c =
    let p =
    err_from_is_err_and c.from_residual-in_err-verdict-in-Some.result c.from_residual-in_err-verdict-in-Some.ensures.1
    in
    rw (p.1, p.2) (
      names_of c.in_ok-inputs.inputs,
      after_loading c.in_ok-inputs.inputs c.read_inputs.new.folder c.in_ok-inputs.ensures,
    )

pub returns : goal.returns
returns g c =
    record {
      found = record {
        inputs = c.in_ok-inputs.inputs;
        content = c.in-Some.content;
        read = c.in_ok-inputs.ensures;
        old = c.in-Some.is;
        says = c.in_ok-verdict-in-Some.ensures.says;
        selects = c.in_ok-verdict-in-Some.ensures.selects;
      };
      index_is = refl;
    }
