use Rattle.std.proofs.Common.{ℕ, [], ◌∷◌, ◌++◌, Vec, get_or, refl, sym, ap, ◌∙◌, subst₂, arith}
use Rattle.std.specs.declared.alloc.Global.{Global}
use Rattle.selection.specs.inner.Met.{is_lower}
use Rattle.selection.proofs.RunSearch.{RunsTo, are_runs, ends, goes_on}
use Rattle.selection.proofs.picking.runs_of.Goals.{then-not-is_lower+in_ok-push, else-not-is_lower}
use Rattle.selection.proofs.picking.runs_of.Goals as goal

pub places-preserved : goal.places-preserved
places-preserved c =
    let order = c.args.order.now in
    let at = c.places.place-index in
    let place = get_or order at 0 in
    let new = c.push-in-places.new.self.items in
    elim c.if-not-is_lower.branch [
      | then-not-is_lower+in_ok-push w ↦
          let begun = ends order at c.places.runs.items c.if-not-is_lower.runs.items c.places.run c.places.invariant
          (ap (λ (v : Vec (Vec ℕ Global) Global). v.items) w.runs-is ∙ w.in_ok-push.ensures.items) in
          goes_on order at c.if-not-is_lower.runs.items [] new place begun c.places-test.true refl refl
          (c.in_ok-push-2.ensures.items
          ∙ ap (λ xs. xs ++ place ∷ [])
          (ap (λ (v : Vec ℕ Global). v.items) w.run-is ∙ w.new-run-then-not-is_lower.ensures.items))
      | else-not-is_lower w ↦
          let still = subst₂ (λ (rs : Vec (Vec ℕ Global) Global) (r : Vec ℕ Global). RunsTo order at rs.items r.items)
          (sym w.runs-is) (sym w.run-is) c.places.invariant in
          goes_on order at c.if-not-is_lower.runs.items c.if-not-is_lower.run.items new place still c.places-test.true
          refl (ap (λ (v : Vec ℕ Global). is_lower v.items place) w.run-is
          ∙ ap (λ run. is_lower run place) (sym c.as_slice.ensures.value) ∙ sym c.is_lower.ensures
          ∙ w.if-not-is_lower.false)
          c.in_ok-push-2.ensures.items
    ]

pub returns : goal.returns
returns c =
    are_runs c.args.order.now c.places.place-index c.places.runs.items c.push-2.new.self.items c.places.run
    c.places.invariant (omega arith) c.in_ok-push-3.ensures.items
