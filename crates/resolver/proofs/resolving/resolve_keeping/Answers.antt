use Rattle.std.proofs.lemmas.Result.{err_from_is_err_and}
use Rattle.std.proofs.Common.{option_copied, subst, sym, refl, ◌∙◌}
use Rattle.resolver.specs.Answers.{IsAnswer}
use Rattle.resolver.specs.Inputs.{names_of}
use Rattle.resolver.specs.Inputs.IsCutShort.{after_loading}
use Rattle.resolver.proofs.Answered.{answered, unanswered}
use Rattle.resolver.proofs.resolving.resolve_keeping.Goals as goal

pub returns-in_err-reply : goal.returns-in_err-reply
returns-in_err-reply g c =
    let p = err_from_is_err_and c.from_residual-in_err-reply.result c.from_residual-in_err-reply.ensures.1 in
    rw (p.1, p.2)
    (unanswered g.F.Folder.calls g.F.Folder.failed (record {
      manifest = c.args.manifest.now;
      old =
          option_copied c.args.old;
      source = c.args.source.now;
      prefer = c.args.prefer;
    })
    c.args.folder.now c.read_inputs.new.folder c.in_ok-inputs.inputs c.in_err-reply.field-0.0 c.as_str.ensures.source
    c.in_ok-inputs.ensures c.in_err-reply.ensures)

pub returns-in_err-skips : goal.returns-in_err-skips
returns-in_err-skips g c =
    let p = err_from_is_err_and c.from_residual-in_err-skips.result c.from_residual-in_err-skips.ensures.1 in
    rw (p.1, p.2) (
      names_of c.in_ok-inputs.inputs,
      after_loading c.in_ok-inputs.inputs c.read_inputs.new.folder c.in_ok-inputs.ensures,
    )

pub returns : goal.returns
returns g c =
    record {
      answered = record {
        inputs = c.in_ok-inputs.inputs;
        read = c.in_ok-inputs.ensures;
        is = subst (IsAnswer (option_copied c.args.old) c.in_ok-inputs.inputs) (sym c.with_skips.ensures)
            (answered (option_copied c.args.old) c.in_ok-inputs.inputs c.in_ok-reply.reply c.in_ok-skips.skips
            c.in_ok-inputs.ensures.lock_says (c.in_ok-skips.ensures ∙ c.skips.ensures) c.in_ok-reply.ensures);
      };
      index_is = refl;
    }
