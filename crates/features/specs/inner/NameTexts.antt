-- What the text of a name is, wherever it lies.
use Rattle.std.specs.Prelude.{ℕ, List, string_bytes}
use Rattle.features.specs.declared.name_text.NameText.{NameText}
use Rattle.features.specs.declared.name_text.NameText.TheVariants.{Short, Long}

abbrev pub text_bytes : NameText → List ℕ
text_bytes (Short s) = s.bytes
text_bytes (Long s) = string_bytes s
