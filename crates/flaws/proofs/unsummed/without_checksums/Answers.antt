use Rattle.std.proofs.Common.{map, subst, sym, ap, ◌∙◌}
use Rattle.model.specs.Order.{IsContent}
use Rattle.flaws.specs.inner.Unsummed.{without_checksum}
use Rattle.flaws.proofs.StillContent.{still_content}
use Rattle.flaws.proofs.unsummed.without_checksums.Goals as goal

pub new-requires : goal.new-requires
new-requires c =
    subst IsContent (sym (c.in_ok-copies.ensures ∙ ap (map without_checksum) c.packages.ensures.views))
    (still_content c.args.content.now c.packages.ensures.content)
