-- What holds of the records of a file: no two are of equal precedence, and each knows its features.
use Rattle.std.proofs.Common.{◌≡◌, ◌≢◌, ℕ, ◌+◌, ◌==◌, ◌||◌, List, [], ◌∷◌, ◌++◌, Bool, true, false, cond, Ok, Err}
use Rattle.std.proofs.Common.{Result, is_eq, refl, sym, ap, ◌∙◌, true≢false}
use Rattle.std.proofs.lemmas.List.Elements.{All-append}
use Rattle.std.proofs.lemmas.List.Kept.{AllPairs-cons}
use Rattle.std.specs.Bool.{⊤}
use Rattle.std.specs.List.{All, AllPairs, list_all, slice_split}
use Rattle.std.specs.Ordering.{ordering_reverse}
use Rattle.std.specs.declared.cmp.Ordering.TheVariants.{Equal}
use Rattle.semver.specs.Parse.{version_parts}
use Rattle.model.specs.Outcome.{◌>>=◌}
use Rattle.model.specs.Order.{precedence}
use Rattle.model.specs.Summary.{KnowsFeatures, Table, same_text}
use Rattle.model.specs.Tables.{TableFault, table_of}
use Rattle.model.proofs.Candidates.{precedence_total}
use Rattle.model.proofs.Lists.{all_none, all_cons, pairs_none, pairs_one, pairs_all, pairs_rest}
use Rattle.model.proofs.Tables.{built-knows}
use Rattle.index_lines.specs.Shapes.{Line, ShapeView, data_of_bytes, shape_of}
use Rattle.index_lines.specs.Records.{written_of, dep_names_of, unless_faulty, features_of, RecordView, unless}
use Rattle.index_lines.specs.Records.{semver_or, required, dependencies_read, is_of_index, is_checksum}
use Rattle.index_lines.specs.Records.{unchecked_of_shape, unchecked_of_line}
use Rattle.index_reader.specs.Files.{FileView, same_precedence, has_version, no_lines, with_skip, with_record}
use Rattle.index_reader.specs.Files.{with_found, with_read, with_line, with_lines, records_of_file}
use Rattle.trees.specs.Trees.{is_line_end, is_blank}
use Rattle.index_lines.specs.declared.fault.SkipReason.TheVariants.{NewerFormat, OtherName, BadVersion, OtherRegistry}
use Rattle.index_lines.specs.declared.fault.SkipReason.TheVariants.{BadChecksum, Duplicate}
use Rattle.index_lines.specs.declared.fault.LineFault.TheVariants.{OutOfMemory, Skipped}

abbrev pub Differ : RecordView → RecordView → Type 0
Differ a b = precedence a.version b.version ≢ Equal

abbrev pub Knows : RecordView → Type 0
Knows r = KnowsFeatures r.brings.features

pub record AreKept (records : List RecordView) : Type 0 where
  pub apart : AllPairs Differ records
  pub known : All Knows records

-- what a line gives, if it gives anything, has the property
abbrev pub Given : {A : Type 0} → (A → Type 0) → Line A → Type 0
Given P (Ok x) = P x
Given P (Err e) = ⊤

step : {A B : Type 0} (P : B → Type 0) (m : Line A) (f : A → Line B)
    → ((x : A) → m ≡ Ok x → Given P (f x)) → Given P (m >>= f)
step P (Ok x) f h = h x refl
step P (Err e) f h = tt

given : {A : Type 0} (P : A → Type 0) (m : Line A) (x : A) → Given P m → m ≡ Ok x → P x
given P m x g is = rw (is) at g

faultless : (r : Result Table (TableFault × List ℕ)) → ((t : Table) → r ≡ Ok t → KnowsFeatures t)
    → Given KnowsFeatures (unless_faulty r)
faultless (Ok t) h = h t refl
faultless (Err e) h = tt

table-knows : (s : ShapeView) → Given KnowsFeatures (features_of s)
unfolding features_of
table-knows s = step KnowsFeatures (written_of s) _ (λ written _.
    faultless (table_of (dep_names_of s.dependencies) written) (built-knows (dep_names_of s.dependencies) written))

shape-knows : (asked : List ℕ) (s : ShapeView) → Given Knows (unchecked_of_shape asked s)
unfolding unchecked_of_shape
shape-knows asked s =
    step Knows (unless (s.format == 1 || s.format == 2) NewerFormat) _ (λ format _.
    step Knows (unless (same_text s.name asked) OtherName) _ (λ name _.
    step Knows (semver_or BadVersion (version_parts s.version)) _ (λ version _.
    step Knows (required s.dependencies) _ (λ parts _.
    step Knows (dependencies_read parts) _ (λ dependencies _.
    step Knows (features_of s) _ (λ features is.
    step Knows (unless (list_all is_of_index s.dependencies) OtherRegistry) _
    (λ registries _. given KnowsFeatures (features_of s) features (table-knows s) is)))))))

line-knows : (asked line : List ℕ) → Given Knows (unchecked_of_line asked line)
unfolding unchecked_of_line
line-knows asked line =
    step Knows (data_of_bytes line) _ (λ d _. step Knows (shape_of d) _ (λ s _. shape-knows asked s))

neither : (a b : Bool) → (a || b) ≡ false → (a ≡ false) × (b ≡ false)
neither true b h = absurd (true≢false h)
neither false b h = (refl, h)

-- where no record has an equal version, one more stays apart from them
apart-more : (rs : List RecordView) (r : RecordView) → AllPairs Differ rs → has_version rs r.version ≡ false
    → AllPairs Differ (rs ++ r ∷ [])
apart-more [] r h none = pairs_one Differ r
apart-more (x ∷ rs) r h none =
    let e = neither (same_precedence r.version x.version) (has_version rs r.version) none in
    AllPairs-cons Differ x (rs ++ r ∷ [])
    (All-append (Differ x) rs (r ∷ []) (pairs_all Differ x rs h)
    (all_cons (Differ x) r [] (differs e.0) (all_none (Differ x))))
    (apart-more rs r (pairs_rest Differ x rs h) e.1)
  where
    differs : same_precedence r.version x.version ≡ false → Differ x r
    differs other e =
        true≢false (sym (ap is_eq (precedence_total.antisymm r.version x.version ∙ ap ordering_reverse e)) ∙ other)

record-kept : (name : List ℕ) (n : ℕ) (r : RecordView) (file : FileView) → AreKept file.records → Knows r
    → AreKept (with_record name n r file).records
record-kept name n r file h k = by (has_version file.records r.version) refl
  where
    by : (b : Bool) → has_version file.records r.version ≡ b
        → AreKept (cond b (with_skip name n Duplicate file)
        (record { records = file.records ++ r ∷ []; skips = file.skips })).records
    by true e = h
    by false e = record {
      apart = apart-more file.records r h.apart e;
      known = All-append Knows file.records (r ∷ []) h.known (all_cons Knows r [] k (all_none Knows));
    }

found-kept : (name : List ℕ) (n : ℕ) (r : RecordView) (file : FileView) → AreKept file.records → Knows r
    → AreKept (with_found name n r file).records
found-kept name n r file h k = by (is_checksum r.checksum)
  where
    by : (b : Bool) → AreKept (cond b (with_record name n r file)
        (with_skip name n (cond (has_version file.records r.version) Duplicate BadChecksum) file)).records
    by true = record-kept name n r file h k
    by false = h

read-kept : (name : List ℕ) (n : ℕ) (m : Line RecordView) (file : FileView) → AreKept file.records → Given Knows m
    → AreKept (with_read name n m file).records
read-kept name n (Ok r) file h k = found-kept name n r file h k
read-kept name n (Err (Skipped why)) file h k = h
read-kept name n (Err OutOfMemory) file h k = h

line-kept : (name : List ℕ) (n : ℕ) (text : List ℕ) (file : FileView) → AreKept file.records
    → AreKept (with_line name n text file).records
line-kept name n text file h = by (is_blank text)
  where
    by : (b : Bool) → AreKept (cond b file (with_read name n (unchecked_of_line name text) file)).records
    by true = h
    by false = read-kept name n (unchecked_of_line name text) file h (line-knows name text)

lines-kept : (name : List ℕ) (n : ℕ) (texts : List (List ℕ)) (file : FileView) → AreKept file.records
    → AreKept (with_lines name n texts file).records
unfolding with_lines
lines-kept name n [] file h = h
lines-kept name n (text ∷ texts) file h =
    lines-kept name (n + 1) texts (with_line name n text file) (line-kept name n text file h)

pub file-kept : (name bytes : List ℕ) → AreKept (records_of_file name bytes).records
file-kept name bytes = lines-kept name 1 (slice_split is_line_end bytes) no_lines
    (record { apart = pairs_none Differ; known = all_none Knows })
