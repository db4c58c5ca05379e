use Rattle.std.proofs.Common.{◌≡◌, ◌+◌, ◌||◌, not, [], ◌∷◌, length, option_map, arith, sym, ap, ap₂, ◌∙◌, subst}
use Rattle.std.proofs.lemmas.List.{length-append}
use Rattle.std.specs.Vec.Iter.{into_iter_items, into_iter_len}
use Rattle.classes.specs.Classes.{rust_version_view}
use Rattle.model.specs.Candidates.{is_locked}
use Rattle.index_lines.specs.Views.{record_view}
use Rattle.catalogue.specs.Loads.{packages_of_old}
use Rattle.catalogue.specs.Runs.{as_record}
use Rattle.catalogue.specs.Stores.{rank_of, records, AreRising, AreKnown, BringValid}
use Rattle.catalogue.proofs.Chosen.{Brings, Knows, chosen-yes, chosen-no, chosen-done, chosen-all, chosen-rise}
use Rattle.catalogue.proofs.Chosen.{read-snoc, rank-is}
use Rattle.catalogue.proofs.Chosen.{none-left}
use Rattle.catalogue.proofs.choosing.kept.Goals as goal

pub records-preserved-in-Continue-branch-4 : goal.records-preserved-in-Continue-branch-4
records-preserved-in-Continue-branch-4 c =
    let locked = is_locked (packages_of_old c.args.run.now.old) c.args.run.now.source.now c.args.name.now in
    let rust = option_map rust_version_view c.args.run.now.rust_version in
    let r = as_record (record_view c.in-Some.record) in
    let here : into_iter_items c.records.record-iterator ≡ c.in-Some.record ∷ into_iter_items c.next.new.self =
    c.in-Some.ensures.steps.0 in
    let left : into_iter_len c.next.new.self + 1 ≡ into_iter_len c.records.record-iterator =
    c.in-Some.ensures.steps.1 in
    let count = ap length here in
    let counted = c.records.invariant.counted in
    let few = c.records.invariant.few in
    let beside = c.records.invariant.beside in
    let is : c.is_locked-locked.result ≡ locked r.version = c.is_locked-locked.ensures
    ∙ ap (λ s. is_locked (packages_of_old c.args.run.now.old) s c.args.name.now r.version) c.as_str.ensures.text in
    let may = ap (λ b. not r.yanked || b) (sym is) ∙ sym c.may_be_locked.ensures ∙ c.if-may_be_locked.true in
    let rank : c.rank_of-rank.result ≡ rank_of locked rust r =
    c.rank_of-rank.ensures ∙ rank-is rust r c.is_locked-locked.result (locked r.version) is in
    record {
      can = tt;
      finite = tt;
      counted = omega (arith, counted, count, left);
      beside = rw (
        c.in_ok-push.ensures.items,
        c.in_ok-push-2.ensures.items,
        length-append,
        length-append,
      ) (omega (arith, beside));
      read = rw c.in_ok-push.ensures.items (read-snoc c.records.versions.items c.in-Some.record.version
          c.records.invariant.read c.in-Some.record.is_read);
      few = rw (c.in_ok-push-2.ensures.items, length-append) (omega (arith, few, count));
      told = rw (c.in_ok-push.ensures.items, c.in_ok-push-2.ensures.items)
          (chosen-yes locked rust c.records.versions.items c.records.kept.items _ _ c.in-Some.record
          (into_iter_items c.next.new.self) c.args.records.items beside may
          (ap₂ (λ s k. (record r { checksum = s }, k)) c.of.ensures rank)
          (rw here at c.records.invariant.told));
    }

pub records-preserved : goal.records-preserved
records-preserved c =
    let locked = is_locked (packages_of_old c.args.run.now.old) c.args.run.now.source.now c.args.name.now in
    let rust = option_map rust_version_view c.args.run.now.rust_version in
    let r = as_record (record_view c.in-Some.record) in
    let here : into_iter_items c.records.record-iterator ≡ c.in-Some.record ∷ into_iter_items c.next.new.self =
    c.in-Some.ensures.steps.0 in
    let left : into_iter_len c.next.new.self + 1 ≡ into_iter_len c.records.record-iterator =
    c.in-Some.ensures.steps.1 in
    let count = ap length here in
    let counted = c.records.invariant.counted in
    let few = c.records.invariant.few in
    let is : c.is_locked-locked.result ≡ locked r.version = c.is_locked-locked.ensures
    ∙ ap (λ s. is_locked (packages_of_old c.args.run.now.old) s c.args.name.now r.version) c.as_str.ensures.text in
    let may = ap (λ b. not r.yanked || b) (sym is) ∙ sym c.may_be_locked.ensures ∙ c.if-may_be_locked.false in
    record {
      can = tt;
      finite = tt;
      counted = omega (arith, counted, count, left);
      beside = c.records.invariant.beside;
      read = c.records.invariant.read;
      few = omega (arith, few, count);
      told = chosen-no locked rust _ c.in-Some.record (into_iter_items c.next.new.self) c.args.records.items may
          (rw here at c.records.invariant.told);
    }

pub invariant_of-result : goal.invariant_of-result
invariant_of-result c =
    let locked = is_locked (packages_of_old c.args.run.now.old) c.args.run.now.source.now c.args.name.now in
    let rust = option_map rust_version_view c.args.run.now.rust_version in
    let none : into_iter_items c.records.record-iterator ≡ [] = none-left (into_iter_len c.records.record-iterator)
    (into_iter_items c.records.record-iterator) c.records.invariant.counted c.in-None.ensures.steps.0 in
    let all = chosen-done locked rust _ c.args.records.items (rw none at c.records.invariant.told) in
    let few = c.records.invariant.few in
    let most = c.requires.few in
    record {
      beside = c.records.invariant.beside;
      rising = subst AreRising (sym all) (chosen-rise locked rust c.args.records.items c.requires.rising);
      read = c.records.invariant.read;
      few = omega (arith, few, most);
      known = subst AreKnown (sym all) (chosen-all locked rust Knows c.args.records.items c.requires.known);
      valid =
          subst (λ rs. BringValid (records rs)) (sym all)
          (chosen-all locked rust Brings c.args.records.items c.requires.valid);
    }

pub returns : goal.returns
returns c =
    let locked = is_locked (packages_of_old c.args.run.now.old) c.args.run.now.source.now c.args.name.now in
    let rust = option_map rust_version_view c.args.run.now.rust_version in
    let none : into_iter_items c.records.record-iterator ≡ [] = none-left (into_iter_len c.records.record-iterator)
    (into_iter_items c.records.record-iterator) c.records.invariant.counted c.in-None.ensures.steps.0 in
    chosen-done locked rust _ c.args.records.items (rw none at c.records.invariant.told)
