-- What a lock says, and what it is held against (Cargo book, "Cargo.toml vs Cargo.lock" and "Registry Index"). That a
-- dependency means the last listed package that serves it is this project's reading: a lock doesn't say.
use Rattle.std.specs.Prelude.{ℕ, List, [], ◌∷◌, Bool, true, false, not, ◌&&◌, if◌then◌else◌, Option, Some, None, nat_eq}
use Rattle.std.specs.Prelude.{is_some, slice_get, option_and_then}
use Rattle.semver.specs.Parse.{Parts}
use Rattle.semver.specs.EvalViews.{matches_views}
use Rattle.model.specs.Summary.{Summary, Dependency, same_text, nothing}
use Rattle.std.specs.Str.{is_utf8}

-- a locked package; its list has the places of packages of the same content
pub record Package : Type 0 where
  pub name : List ℕ
  pub version : Parts
  pub source : Option (List ℕ)
  pub checksum : Option (List ℕ)
  pub list : List ℕ

-- the packages; `IsContent` says what makes a list of them the content of a lock
abbrev pub Content : Type 0
Content = List Package

-- a version of a package that may be locked
pub record Candidate : Type 0 where
  pub version : Parts
  pub checksum : List ℕ
  pub brings : Summary

-- What a selection is held against: the manifest, the run's source, and the candidates by name, oldest first.
-- An entry `d/g` of the manifest is the pair (d, g) of `root_asks`.
pub record Problem : Type 0 where
  pub name : List ℕ
  pub version : Parts
  pub brings : Summary
  pub root_asks : List (List ℕ × List ℕ)
  pub source : List ℕ
  pub candidates : List (List ℕ × List Candidate)

-- the same problem with other candidates
abbrev pub with_candidates : Problem → List (List ℕ × List Candidate) → Problem
with_candidates q cs = record q { candidates = cs }

-- two versions are the same only if their whole texts are
abbrev pub same_version : Parts → Parts → Bool
same_version a b = nat_eq a.0 b.0 && nat_eq a.1 b.1 && nat_eq a.2 b.2 && same_text a.3 b.3 && same_text a.4 b.4

abbrev pub same_option : Option (List ℕ) → Option (List ℕ) → Bool
same_option None None = true
same_option (Some a) (Some b) = same_text a b
same_option None (Some b) = false
same_option (Some a) None = false

abbrev pub candidates_of : List (List ℕ × List Candidate) → List ℕ → List Candidate
candidates_of [] name = []
candidates_of (row ∷ rows) name = if same_text name row.0 then row.1 else candidates_of rows name

abbrev pub candidate_at : List Candidate → Parts → Option Candidate
candidate_at [] version = None
candidate_at (c ∷ cs) version = if same_version version c.version then Some c else candidate_at cs version

-- the root package is the one without a source that has the root's name and version
abbrev pub is_root : Problem → Package → Bool
is_root q p = not (is_some p.source) && same_text q.name p.name && same_version q.version p.version

abbrev pub if_checksum : Option (List ℕ) → Candidate → Option Candidate
if_checksum sum c = if same_option sum (Some c.checksum) then Some c else None

-- the candidate that a package is: of the run's source, with the index's checksum
abbrev pub candidate_of : Problem → Package → Option Candidate
candidate_of q p = if same_option p.source (Some q.source)
    then option_and_then (if_checksum p.checksum) (candidate_at (candidates_of q.candidates p.name) p.version)
    else None

abbrev pub brings_of : Option Candidate → Summary
brings_of None = nothing
brings_of (Some c) = c.brings

-- what a package brings: nothing, where it is neither the root nor a candidate
abbrev pub summary_of : Problem → Package → Summary
summary_of q p = if is_root q p then q.brings else brings_of (candidate_of q p)

abbrev pub summary_if : Problem → Option Package → Summary
summary_if q None = nothing
summary_if q (Some p) = summary_of q p

-- the same at a place of the content
abbrev pub summary_at : Problem → Content → ℕ → Summary
summary_at q content n = summary_if q (slice_get content n)

-- whether a package serves a dependency
abbrev pub serves : Dependency → Package → Bool
serves d p = is_some p.source && same_text d.real_name p.name && matches_views d.requirement p.version

abbrev pub serves_if : Dependency → Option Package → Bool
serves_if d None = false
serves_if d (Some p) = serves d p

-- a later place that serves, else this one if it does
abbrev pub or_this : Bool → ℕ → Option ℕ → Option ℕ
or_this serving i (Some j) = Some j
or_this true i None = Some i
or_this false i None = None

-- the last of these places whose package serves the dependency
abbrev pub last_serving : Content → Dependency → List ℕ → Option ℕ
last_serving content d [] = None
last_serving content d (i ∷ is) = or_this (serves_if d (slice_get content i)) i (last_serving content d is)

abbrev pub list_if : Option Package → List ℕ
list_if None = []
list_if (Some p) = p.list

-- the target of a dependency of the package at place n: the last of its list that serves it
abbrev pub target_of : Content → ℕ → Dependency → Option ℕ
target_of content n d = last_serving content d (list_if (slice_get content n))

-- ---- What is asked of something that may not be there, and bytes that may be no text.

-- whether there is one, and it passes the test
abbrev pub passes : {X : Type 0} → (X → Bool) → Option X → Bool
passes test None = false
passes test (Some x) = test x

-- the packages of a lock, if there is one
abbrev pub packages_if : Option Content → Content
packages_if None = []
packages_if (Some content) = content

-- what bytes are read as: nothing where they are no UTF-8
abbrev pub of_utf8 : {X : Type 0} → (List ℕ → Option X) → List ℕ → Option X
of_utf8 read bytes = if is_utf8 bytes then read bytes else None
