use Rattle.std.proofs.Common.{rules}
use Rattle.manifest.specs.Values.{each_member}
use Rattle.manifest.proofs.FeatureLemmas.{row_view, key_texts, texts_rise, inserted}
use Rattle.model.proofs.Fronts.{pushed}
use Rattle.manifest.proofs.feature.features_in.Goals as goal

pub members-init : goal.members-init
members-init c = let rising = texts_rise _ c.iter-key-items.ensures.ordered in
    record { can = tt; finite = tt; sorted = search rules; told = search rules }

pub members-preserved-in_ok-insert : goal.members-preserved-in_ok-insert
unfolding each_member
members-preserved-in_ok-insert c =
    let last = inserted c.members.found.entries _ c.in_ok-name.name _
    (key_texts c.next.new.self) c.in_ok-insert.ensures.entries (search rules) in
    record {
      can = tt;
      finite = tt;
      sorted = last.1;
      told =
          pushed row_view _ _ _ _ _ _ last.0 c.in_ok-name.ensures.row (search rules);
    }

pub members-preserved : goal.members-preserved
unfolding each_member
members-preserved c =
    let last = inserted c.members.found.entries _ c.in_ok-name.name _
    (key_texts c.next.new.self) c.in_ok-insert.ensures.entries (search rules) in
    record {
      can = tt;
      finite = tt;
      sorted = last.1;
      told =
          pushed row_view _ _ _ _ _ _ last.0 c.in_ok-name.ensures.row (search rules);
    }
