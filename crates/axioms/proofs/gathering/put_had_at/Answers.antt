use Rattle.std.proofs.Common.{◌∙◌, ◌&&◌, ap, sym, option_map}
use Rattle.std.specs.Borrow.{Bor}
use Rattle.std.specs.List.{list_any}
use Rattle.model.specs.Summary.{Summary, has_feature, same_text}
use Rattle.model.specs.Causes.{same_pair}
use Rattle.catalogue.specs.Stores.{candidates_at, said_by}
use Rattle.catalogue.specs.declared.candidate.Candidate.{Candidate}
use Rattle.catalogue.proofs.Found.{said_got}
use Rattle.axioms.proofs.GatherLemmas.{adds_none, adds_ok, and-none, named_rows}
use Rattle.axioms.proofs.Recorded.{none_at, one_at}
use Rattle.axioms.proofs.gathering.put_had_at.Goals as goal

pub returns-in-Some : goal.returns-in-Some
returns-in-Some c =
    let table = c.in-Some.candidate.now.brings.features in
    adds_ok c.put_table.result c.args.known.now c.put_table.new.known _ _
    (λ n f. ap (λ name. list_any (λ row. same_pair (n, f) (name, row.0)) table) c.as_str.ensures.text
    ∙ named_rows n f c.args.name.now table
    ∙ ap (λ b. same_text n c.args.name.now && b)
    (one_at (λ (o : Summary). has_feature o.features f) c.args.catalogue.now c.args.name.now c.args.place
    (said_by c.in-Some.candidate.now)
    (sym (ap (option_map (λ (x : Bor Candidate). said_by x.now)) c.in-Some.is)
    ∙ said_got c.candidates.result.now (candidates_at c.args.catalogue.now c.args.name.now) c.args.place
    c.get.result c.candidates.ensures c.get.ensures.lookup)))
    c.put_table.ensures

pub returns-in-None : goal.returns-in-None
returns-in-None c =
    adds_none c.args.known.now _ (λ n f. and-none (same_text n c.args.name.now) _
    (none_at (λ (o : Summary). has_feature o.features f) c.args.catalogue.now c.args.name.now c.args.place
    (sym (ap (option_map (λ (x : Bor Candidate). said_by x.now)) c.in-None.is)
    ∙ said_got c.candidates.result.now (candidates_at c.args.catalogue.now c.args.name.now) c.args.place
    c.get.result c.candidates.ensures c.get.ensures.lookup)))
