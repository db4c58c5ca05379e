-- What the examples are made of.
use Rattle.std.proofs.Common.{◌≡◌, ℕ, List, [], ◌∷◌, true, false, Some, None}
use Rattle.std.specs.Prelude.{codes}
use Rattle.semver.specs.Parse.{Held, Parts}
use Rattle.semver.specs.declared.Op.TheVariants as op
use Rattle.model.specs.Summary.{Dependency, Table}
use Rattle.model.specs.Content.{Problem, Candidate}
use Rattle.model.specs.Selection.{major}
use Rattle.model.specs.Vertices.{Vertex, State, in_class}
use Rattle.model.specs.Axioms.{Term, at, Kind, without_full}
use Rattle.model.specs.Causes.{Cause, is_cause, kind_of, terms_of_cause}
use Rattle.model.specs.inner.Instances.{is_instance}

abbrev pub plain : ℕ → ℕ → ℕ → Parts
plain a b c = (a, b, c, [], [])

-- `=1.0.0`, `^1`, `>=1`
abbrev pub exactly : ℕ → ℕ → ℕ → List Held
exactly a b c = (op.Exact, a, Some b, Some c, []) ∷ []

abbrev pub within : ℕ → List Held
within a = (op.Caret, a, None, None, []) ∷ []

abbrev pub from : ℕ → List Held
from a = (op.GreaterEq, a, None, None, []) ∷ []

-- a dependency that is called by its package's name
abbrev pub on : List ℕ → List Held → Dependency
on name requirement = record {
  name = name;
  real_name = name;
  requirement = requirement;
  optional =
      false;
  default_features = true;
  features = [];
}

abbrev pub candidate : Parts → List Dependency → Table → Candidate
candidate v ds table =
    record { version = v; checksum = codes "0"; brings = record { dependencies = ds; features = table } }

abbrev pub demo : List Dependency → List (List ℕ × List Candidate) → Problem
demo ds cs = record {
  name = codes "demo";
  version = plain 0 1 0;
  brings = record {
    dependencies = ds;
    features =
        (codes "default", []) ∷ [];
  };
  root_asks = [];
  source = codes "r";
  candidates = cs;
}

-- the table of a package without features
abbrev pub no_features : Table
no_features = (codes "default", []) ∷ []

abbrev pub class_1 : State
class_1 = in_class (major 1)

abbrev pub class_2 : State
class_2 = in_class (major 2)

-- terms with one state
abbrev pub one : Vertex → State → Term
one v s = at v (s ∷ [])

-- the cause is there, is of this kind, has these terms, and they pass the test of the kind
abbrev pub HasTerms : Problem → Cause → Kind → List Term → Type 0
HasTerms q c k ts =
    (is_cause q c ≡ true) × (kind_of c ≡ k) × (without_full q (terms_of_cause q c) ≡ ts) × (is_instance q k ts ≡ true)
