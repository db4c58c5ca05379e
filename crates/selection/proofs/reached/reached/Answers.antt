use Rattle.std.proofs.Common.{◌≡◌, ◌↔◌, ℕ, true, length, ◌∙◌, sym, ap, subst, subst₂, arith}
use Rattle.std.proofs.lemmas.List.{length-map}
use Rattle.facts.specs.inner.Chains.{has, AreBelow}
use Rattle.lockfile.specs.inner.Views.{package_view, package_views}
use Rattle.selection.proofs.Reaching.{rules_below, closed}
use Rattle.selection.proofs.reached.reached.Goals as goal

pub close-requires : goal.close-requires
close-requires c = record {
  below =
      subst₂ (λ n rs. AreBelow n rs)
      (length-map c.args.content.now package_view
      ∙ sym (ap length c.deref_mut.ensures.value ∙ c.in_ok-marked.ensures.length))
      (sym (c.deref.ensures.value ∙ c.in_ok-rules.ensures))
      (rules_below (package_views c.args.content.now) c.requires.content);
}

pub returns : goal.returns
returns c =
    λ q only. closed (package_views c.args.content.now) c.requires.content q c.args.root only c.deref.result.now
    c.deref_mut.result.now c.close.new.marked c.in_ok-marked.marked.items c.in_ok-marked.marked.len
    (c.deref.ensures.value ∙ c.in_ok-rules.ensures)
    (subst (λ s. (n : ℕ) → (has s n ≡ true) ↔ (n ≡ c.args.root))
    (sym c.deref_mut.ensures.value) c.in_ok-marked.ensures.marks)
    c.in_ok-close.ensures.given
    (c.in_ok-close.ensures.length ∙ ap length c.deref_mut.ensures.value)
    (omega (arith, c.in_ok-close.ensures.length, c.deref_mut.ensures.len))
