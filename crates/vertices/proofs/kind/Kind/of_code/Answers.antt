use Rattle.std.proofs.Common.{rules, ◌≡◌, List, [], ◌∷◌, map, Bool, true, false, cond, Some, option_map, refl, ap, ◌∙◌}
use Rattle.std.specs.List.{find}
use Rattle.std.proofs.lemmas.Iterator.{YieldsList-from_slice}
use Rattle.std.proofs.lemmas.Iterator.Search.{find_from_yields_List}
use Rattle.model.specs.Summary.{same_text}
use Rattle.vertices.specs.Texts.{kind_view, kind_text}
use Rattle.vertices.specs.declared.kind.Kind.{Kind}
use Rattle.vertices.specs.declared.kind.Kind.TheVariants.{Root, Needed, Target, HasFeature, WantsFeature}
use Rattle.vertices.specs.declared.kind.Kind.TheVariants.{FeatureOnFeature, FeatureOnDependency, FeatureAsks}
use Rattle.vertices.specs.declared.kind.Kind.TheVariants.{NewestListed, WeakFeature}
use Rattle.vertices.proofs.kind.Kind.of_code.Goals as goal

-- what is found is seen as what is found among what is seen
found-seen : {X Y : Type 0} (f : X → Y) (test : Y → Bool) (xs : List X)
    → option_map f (find (λ x. test (f x)) xs) ≡ find test (map f xs)
found-seen f test [] = refl
found-seen f test (x ∷ xs) = by (found-seen f test xs) (test (f x))
  where
    by : option_map f (find (λ y. test (f y)) xs) ≡ find test (map f xs) → (b : Bool)
        → option_map f (cond b (Some x) (find (λ y. test (f y)) xs)) ≡ cond b (Some (f x)) (find test (map f xs))
    by rest true = refl
    by rest false = rest

abbrev all : List Kind
all = Root ∷ Needed ∷ Target ∷ HasFeature ∷ WantsFeature ∷ FeatureOnFeature ∷ FeatureOnDependency ∷ FeatureAsks
    ∷ NewestListed ∷ WeakFeature ∷ []

pub returns : goal.returns
returns c =
    let found = find_from_yields_List (λ k. same_text c.args.text.now (kind_text (kind_view k))) _ _ c.find.result
    c.find.ensures.ran (YieldsList-from_slice all c.iter.ensures.rest) (λ x b q called. search rules) in
    ap (λ o. option_map kind_view o) (c.copied.ensures ∙ found)
    ∙ found-seen kind_view (λ k. same_text c.args.text.now (kind_text k)) all
