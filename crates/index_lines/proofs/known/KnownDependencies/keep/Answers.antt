use Rattle.std.proofs.Common.{rules}
use Rattle.features.specs.Views.{text_views}
use Rattle.index_lines.proofs.KnownLemmas.{same_made}
use Rattle.index_lines.proofs.known.KnownDependencies.keep.Goals as goal

pub invariant_of-made : goal.invariant_of-made
invariant_of-made c = record {
  made = same_made c.args.part.now.requirement.now _ (text_views c.args.part.now.features.items) _
      c.args.dependency.now _ c.requires (search rules) (search rules) (search rules);
}
