-- What the search for a dependency text gives is the place that the text means.
use Rattle.std.proofs.Common.{◌≡◌, ℕ, Bool, true, false, List, [], ◌∷◌, ◌++◌, Option, Some, None, Result, Ok, Err, refl}
use Rattle.std.proofs.Common.{sym, ◌∙◌, ap}
use Rattle.std.specs.Option.{ok_or, option_or}
use Rattle.std.specs.Result.{result_ok}
use Rattle.semver.specs.Parse.{Parts, version_parts}
use Rattle.semver.specs.declared.error.Error.{Error}
use Rattle.model.specs.Outcome.{Gives, Faults}
use Rattle.lockfile.specs.Locks.{wants_memory, checked_version, place_meant, only, places, locked_packages}
use Rattle.lockfile.specs.inner.Search.{HasNoSpace, is_named, is_versioned, is_sourced}
use Rattle.lockfile.specs.inner.Views.{unlinked_views}
use Rattle.lockfile.specs.declared.fault.LockFault.{LockFault}
use Rattle.lockfile.specs.declared.fault.LockFault.TheVariants.{LockShape}
use Rattle.lockfile.specs.declared.packages.UnlinkedPackage.{UnlinkedPackage}
use Rattle.model.specs.Content.{Package}
use Rattle.lockfile.proofs.Forms.{meant-name, meant-version, meant-no_version, meant-source, meant-no_source}
use Rattle.lockfile.proofs.Forms.{meant-bare}
use Rattle.lockfile.proofs.PackageOrder.{each-read}
use Rattle.lockfile.proofs.Spaces.{free-from}

-- the place that a text means, or the fault
abbrev pub PlaceMeant : List UnlinkedPackage → List ℕ → Result ℕ LockFault
PlaceMeant ps text = ok_or (place_meant (locked_packages (unlinked_views ps)) text) LockShape

abbrev Only : List UnlinkedPackage → (Package → Bool) → Option ℕ
Only ps test = only (places test (locked_packages (unlinked_views ps)))

same-faults : (b : Bool) (e : LockFault) (m : Result ℕ LockFault) → m ≡ Err e → Faults b e m
same-faults true e m h = tt
same-faults false e m h = h

gives-same : (r m : Result ℕ LockFault) → r ≡ m → Gives wants_memory (λ i. i) r m
gives-same (Ok i) m h = sym h
gives-same (Err e) m h = same-faults (wants_memory e) e m (sym h)

read-ok : (r : Result Parts Error) (v : Parts) → ok_or (result_ok r) LockShape ≡ Ok v → r ≡ Ok v
read-ok (Ok w) v h = cc
read-ok (Err e) v h = cc

refused : (r : Result Parts Error) (f : LockFault) → ok_or (result_ok r) LockShape ≡ Err f
    → (f ≡ LockShape) × ((e : Error) × (r ≡ Err e))
refused (Ok w) f h = cc
refused (Err e) f h = let same : f ≡ LockShape = cc in (same, (e, refl))

faults-by : (b : Bool) (text : List ℕ) (f : LockFault) (m : Result ℕ LockFault)
    → ((e : Error) → version_parts text ≡ Err e → m ≡ Err LockShape) → Faults b f (checked_version text) → Faults b f m
faults-by true text f m h k = tt
faults-by false text f m h k = let no_version =
    refused (version_parts text) f k in h no_version.1.0 no_version.1.1 ∙ ap Err (sym no_version.0)

-- a fault of the version's text is a fault of the whole text
pub version-fault : (ps : List UnlinkedPackage) (name text : List ℕ) (f : LockFault) → HasNoSpace name → HasNoSpace text
    → Faults (wants_memory f) f (checked_version text) → Faults (wants_memory f) f (PlaceMeant ps (name ++ (32 ∷ text)))
version-fault ps name text f n t =
    faults-by (wants_memory f) text f _ (λ e is. ap (λ o. ok_or o LockShape) (meant-no_version name text e
    (locked_packages (unlinked_views ps)) (each-read ps) (free-from name n) (free-from text t) is))

pub source-fault : (ps : List UnlinkedPackage) (name text end : List ℕ) (f : LockFault) → HasNoSpace name
    → HasNoSpace text → Faults (wants_memory f) f (checked_version text)
    → Faults (wants_memory f) f (PlaceMeant ps (name ++ (32 ∷ (text ++ (32 ∷ end)))))
source-fault ps name text end f n t =
    faults-by (wants_memory f) text f _ (λ e is. ap (λ o. ok_or o LockShape) (meant-no_source name text end e
    (locked_packages (unlinked_views ps)) (each-read ps) (free-from name n) (free-from text t) is))

-- ---- by name

pub name-place : (ps : List UnlinkedPackage) (n : List ℕ) (o : Option ℕ) (r : Result ℕ LockFault) → HasNoSpace n
    → o ≡ Only ps (is_named n) → r ≡ ok_or o LockShape → Gives wants_memory (λ i. i) r (PlaceMeant ps n)
name-place ps n o r h e is =
    gives-same r _ (is ∙ ap (λ p. ok_or p LockShape)
    (e ∙ sym (meant-name n (locked_packages (unlinked_views ps)) (each-read ps) (free-from n h))))

-- ---- by name and version

version-meant : (ps : List UnlinkedPackage) (n : List ℕ) (v : Parts) (text : List ℕ) → HasNoSpace n → HasNoSpace text
    → checked_version text ≡ Ok v
    → place_meant (locked_packages (unlinked_views ps)) (n ++ (32 ∷ text))
    ≡ option_or (Only ps (is_versioned n v)) (Only ps (is_sourced n v None))
version-meant ps n v text h k is = meant-version n v text (locked_packages (unlinked_views ps)) (each-read ps)
    (free-from n h) (free-from text k) (read-ok (version_parts text) v is)

pub version-there : (ps : List UnlinkedPackage) (n : List ℕ) (v : Parts) (text : List ℕ) (o : Option ℕ) (i : ℕ)
    → HasNoSpace n → HasNoSpace text → checked_version text ≡ Ok v
    → o ≡ Only ps (is_versioned n v) → o ≡ Some i → PlaceMeant ps (n ++ (32 ∷ text)) ≡ Ok i
version-there ps n v text o i h k is e s = rw (version-meant ps n v text h k is, ← e, s) refl

pub version-place : (ps : List UnlinkedPackage) (n : List ℕ) (v : Parts) (text : List ℕ) (o q : Option ℕ)
    (r : Result ℕ LockFault) → HasNoSpace n → HasNoSpace text → checked_version text ≡ Ok v
    → o ≡ Only ps (is_versioned n v) → o ≡ None → q ≡ Only ps (is_sourced n v None) → r ≡ ok_or q LockShape
    → Gives wants_memory (λ i. i) r (PlaceMeant ps (n ++ (32 ∷ text)))
version-place ps n v text o q r h k is e s f g =
    let both : PlaceMeant ps (n ++ (32 ∷ text)) ≡ ok_or q LockShape =
    rw (version-meant ps n v text h k is, ← e, s, f) refl in
    gives-same r _ (g ∙ sym both)

-- ---- by name, version and source

pub bare-place : (ps : List UnlinkedPackage) (name text end : List ℕ) → HasNoSpace name → HasNoSpace text
    → ((s : List ℕ) → end ≡ 40 ∷ (s ++ (41 ∷ [])) → ⊥)
    → PlaceMeant ps (name ++ (32 ∷ (text ++ (32 ∷ end)))) ≡ Err LockShape
bare-place ps name text end h k never = ap (λ o. ok_or o LockShape) (meant-bare name text end
    (locked_packages (unlinked_views ps)) (each-read ps) (free-from name h) (free-from text k) never)

pub source-place : (ps : List UnlinkedPackage) (n : List ℕ) (v : Parts) (s : List ℕ) (text end : List ℕ) (o : Option ℕ)
    (r : Result ℕ LockFault) → HasNoSpace n → HasNoSpace text → checked_version text ≡ Ok v
    → end ≡ 40 ∷ (s ++ (41 ∷ [])) → o ≡ Only ps (is_sourced n v (Some s)) → r ≡ ok_or o LockShape
    → Gives wants_memory (λ i. i) r (PlaceMeant ps (n ++ (32 ∷ (text ++ (32 ∷ end)))))
source-place ps n v s text end o r h k is e f g =
    gives-same r _
    (g ∙ ap (λ p. ok_or p LockShape) (f ∙ sym (meant-source n v s text end (locked_packages (unlinked_views ps))
    (each-read ps) (free-from n h) (free-from text k) (read-ok (version_parts text) v is) e)))
