use Rattle.std.proofs.Common.{◌≡◌, ◌++◌, ℕ, List}
use Rattle.std.specs.Borrow.{Bor}
use Rattle.features.specs.inner.Tables.{rows_of}
use Rattle.manifest.specs.Manifests.{root_asks}
use Rattle.numbering.specs.inner.Asked.{asked_in, asked_so}
use Rattle.numbering.proofs.asked.by_name.Given as goal

-- what is asked for so far, with what the rows that are left ask for, is all
abbrev pub invariant-rows : goal.invariant-rows
invariant-rows l = record {
  can : (goal.iterator-rows).can_next l.entries-iterator;
  finite : (goal.iterator-rows).is_finite l.entries-iterator;
  told : (x : Bor (List ℕ)) → asked_in l.asked x ++ asked_so x.now (root_asks (rows_of l.entries-iterator))
      ≡ asked_so x.now (root_asks l.table);
}
