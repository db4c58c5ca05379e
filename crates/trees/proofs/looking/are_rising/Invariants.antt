use Rattle.std.proofs.Common.{◌≡◌, [], drop}
use denote.Shadow.{shadow}
use denote.Text.{Utf8}
use Rattle.trees.specs.Trees.{rise_after}
use Rattle.trees.proofs.looking.are_rising.Given as goal

-- all rise where those that are left rise after the one before
abbrev pub invariant-members : goal.invariant-members
invariant-members l = record {
  text : shadow (Utf8 l.before);
  told : rise_after l.before (drop l.member-index l.member-items) ≡ rise_after [] l.member-items;
}
