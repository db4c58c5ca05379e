-- What holds of the records of a name: each version is there once, and each record knows its features.
use Rattle.std.proofs.Common.{◌≡◌, List, [], ◌∷◌, Contains, Some, None, sym, ap, ◌∙◌, inl, inr, arith}
use Rattle.std.specs.List.{All, AllPairs}
use Rattle.std.proofs.lemmas.List.Elements.{All-map}
use Rattle.model.specs.Summary.{KnowsFeatures}
use Rattle.model.specs.Candidates.{Record, IsApart}
use Rattle.model.proofs.Contents.{precedence-equal}
use Rattle.model.proofs.Lists.{in_none, in_cons, all_none, pairs_none, pairs_first, pairs_rest}
use Rattle.model.proofs.Mapped.{pairs_map}
use Rattle.features.specs.inner.Valid.{BringsValid}
use Rattle.index_reader.specs.Files.{records_of_file}
use Rattle.index_reader.proofs.FileLaws.{file-kept}
use Rattle.index_reader.proofs.ValidLemmas.{file-valid}
use Rattle.catalogue.specs.Loads.{IsWithin}
use Rattle.catalogue.specs.Runs.{Asked, as_record, records_of}

-- what holds of the records of a name
pub record AreSound (records : List Record) : Type 0 where
  pub apart : AllPairs IsApart records
  pub known : All (λ r. KnowsFeatures (r.brings).features) records

pub records-sound : (a : Asked) → AreSound (records_of a)
records-sound (name, None) =
    record { apart = pairs_none IsApart; known = all_none (λ r. KnowsFeatures (r.brings).features) }
records-sound (name, Some bytes) = record {
  apart = pairs_map as_record IsApart (records_of_file name bytes).records (file-kept name bytes).apart;
  known = All-map (λ r. KnowsFeatures (r.brings).features) as_record
      (records_of_file name bytes).records (file-kept name bytes).known;
}

-- each record of a file within the limits brings valid parts
pub records-valid : (a : Asked) → IsWithin a.1 → All (λ r. BringsValid r.brings) (records_of a)
records-valid (name, None) within = all_none (λ r. BringsValid r.brings)
records-valid (name, Some bytes) within =
    let short = within.0 in
    All-map (λ r. BringsValid r.brings) as_record (records_of_file name bytes).records
    (file-valid name bytes (omega (arith, short)))

once-apart : (rs : List Record) (r e : Record) → AllPairs IsApart rs → Contains rs r → Contains rs e
    → r.version ≡ e.version → r ≡ e
once-apart [] r e h i j same = absurd (in_none r i)
once-apart (x ∷ rs) r e h i j same = elim (in_cons x r rs i) [
  | inl a ↦ elim (in_cons x e rs j) [ inl b ↦ sym a ∙ b | inr j ↦ absurd (differs r e (sym a) j same) ]
  | inr i ↦ elim (in_cons x e rs j) [
    | inl b ↦ absurd (differs e r (sym b) i (sym same))
    | inr j ↦ once-apart rs r e
        (pairs_rest IsApart x rs h) i j same
  ]
]
  where
    differs : (r e : Record) → r ≡ x → Contains rs e → r.version ≡ e.version → ⊥
    differs r e a j same = pairs_first IsApart x e rs h j
        (precedence-equal x.version e.version (ap (λ (x : Record). x.version) (sym a) ∙ same))

-- of a name each version is there once
pub each_record_once : (a : Asked) (r e : Record) → Contains (records_of a) r → Contains (records_of a) e
    → r.version ≡ e.version → r ≡ e
each_record_once a r e i j same = once-apart (records_of a) r e (records-sound a).apart i j same
