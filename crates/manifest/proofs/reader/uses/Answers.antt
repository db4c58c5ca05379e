use Rattle.std.proofs.Common.{rules, false}
use Rattle.std.specs.Option.{option_map_or}
use Rattle.std.proofs.lemmas.Iterator.{YieldsList-from_slice}
use Rattle.std.proofs.lemmas.Iterator.Search.{any_from_yields_List}
use Rattle.model.proofs.Mapped.{any-map}
use borrow.Author.Tests.{tests}
use Rattle.manifest.specs.Manifests.{same_source}
use Rattle.manifest.specs.declared.dependency.DependencyShape.{DependencyShape}
use Rattle.manifest.proofs.reader.uses.Goals as goal

pub returns : goal.returns
returns c =
    rw any-map (any_from_yields_List
    (λ (d : DependencyShape). option_map_or (same_source c.args.source) d.unsupported false) _ _ _
    c.any.ensures.ran (YieldsList-from_slice c.args.dependencies.now cc) (λ x b q k. search (rules, tests)))
