-- What is read off terms, without where it lies.
use Rattle.std.specs.Prelude.{ℕ, List}
use Rattle.std.specs.Borrow.{Bor}
use Rattle.semver.specs.Identifiers.{parts_of}
use Rattle.semver.specs.Parse.{Parts}
use Rattle.semver.specs.declared.Version.{Version}
use Rattle.model.specs.Vertices as model
use Rattle.model.specs.Selection as selection
use Rattle.classes.specs.Classes.{class_view}
use Rattle.classes.specs.declared.class.Class.{Class}
use Rattle.vertices.specs.declared.vertex.OwnerRef.{OwnerRef}
use Rattle.vertices.specs.inner.RefViews.{owner_ref_view}

abbrev pub text_seen : Bor (List ℕ) → List ℕ
text_seen f = f.now

abbrev pub version_seen : Bor (List ℕ) × Bor Version → List ℕ × Parts
version_seen p = (p.0.now, parts_of p.1.now)

abbrev pub dep_seen : OwnerRef × ℕ → model.Owner × ℕ
dep_seen p = (owner_ref_view p.0, p.1)

abbrev pub led_seen : OwnerRef × ℕ × Class → model.Owner × ℕ × selection.Class
led_seen p = (owner_ref_view p.0, p.1, class_view p.2)

abbrev pub other_seen : ℕ × Class → ℕ × selection.Class
other_seen p = (p.0, class_view p.1)

abbrev pub feature_seen : Bor (List ℕ) × Class × Bor (List ℕ) → List ℕ × selection.Class × List ℕ
feature_seen p = (p.0.now, class_view p.1, p.2.now)

abbrev pub ask_seen : Bor (List ℕ) × Bor Version × ℕ × Bor (List ℕ) → List ℕ × Parts × ℕ × List ℕ
ask_seen p = (p.0.now, parts_of p.1.now, p.2, p.3.now)
