-- What a line has to have, and the faults that it may have (the format is this project's).
use Rattle.std.specs.Prelude.{ℕ, Bool, true, false, List, Option, Result, Ok, Err}
use Rattle.std.specs.Option.{ok_or}
use Rattle.model.specs.Vertices.{Vertex, State}
use Rattle.vertices.specs.Texts.{Reading, vertex_of_text, state_of_text}
use Rattle.vertices.specs.declared.fault.TextFault.{TextFault}
use Rattle.vertices.specs.declared.fault.TextFault.TheVariants as text
use Rattle.derivations.specs.declared.fault.LineFault.{LineFault}
use Rattle.derivations.specs.declared.fault.LineFault.TheVariants.{OutOfMemory, NotALine, Forward}

abbrev pub line_wants_memory : LineFault → Bool
line_wants_memory OutOfMemory = true
line_wants_memory NotALine = false
line_wants_memory Forward = false

abbrev pub Line : Type 0 → Type 0
Line A = Result A LineFault

-- what has to be there, and of its form
abbrev pub needed : {A : Type 0} → Option A → Line A
needed o = ok_or o NotALine

-- the fault of a line whose text has the fault
abbrev pub line_fault : TextFault → LineFault
line_fault text.OutOfMemory = OutOfMemory
line_fault text.NotAText = NotALine

abbrev pub in_line : {A : Type 0} → Reading A → Line A
in_line (Ok x) = Ok x
in_line (Err e) = Err (line_fault e)

-- the vertex that a text of the line is
abbrev pub vertex_in_line : List ℕ → Line Vertex
vertex_in_line text = in_line (vertex_of_text text)

-- the state of the vertex that a text of the line is
abbrev pub state_in_line : Vertex → List ℕ → Line State
state_in_line v text = in_line (state_of_text v text)
