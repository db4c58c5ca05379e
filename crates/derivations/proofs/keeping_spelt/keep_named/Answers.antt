use Rattle.derivations.proofs.EarlierLaws.{earlier-kept}
use Rattle.derivations.proofs.keeping_spelt.keep_named.Goals as goal

pub keep_sets-requires : goal.keep_sets-requires
keep_sets-requires c =
    earlier-kept c.args.tables.now c.keep_origin.new.tables c.keep_origin.ensures.grown c.of-earlier.result
    (c.of-earlier.ensures c.args.tables.now c.requires)
