-- What the bytes of a text so far came to.
use Rattle.std.specs.Prelude.{◌≡◌, ◌≤◌, ◌+◌, Bool, false, ◌||◌, ℕ, List, [], ◌∷◌, ◌++◌, length, Ok, Err}
use Rattle.std.specs.List.{All, filter}
use Rattle.geom_core.specs.declared.limits.TheConstants.{MAX_OBJ_BYTES, MAX_TRIANGLES}
use Rattle.geom_core.specs.Limits.{IsScale}
use Rattle.obj_source.specs.declared.mesh_builder.MeshBuilder.{MeshBuilder}
use Rattle.obj_source.specs.declared.faults.ObjFault.{ObjFault}
use Rattle.obj_source.specs.declared.faults.ObjFault.TheVariants.{Line, TooMany, Empty, Memory}
use Rattle.obj_source.specs.declared.obj_scanner.ScanState.{ScanState}
use Rattle.obj_source.specs.declared.obj_scanner.ScanState.TheVariants.{First, Later, Skipping}
use Rattle.obj_source.specs.declared.obj_scanner.ObjScanner.{ObjScanner}
use Rattle.obj_source.specs.Builder.{so_far, Stands}
use Rattle.obj_source.specs.LineStates.{corner_count}
use Rattle.obj_source.specs.Lines.{is_line_feed, is_hash, is_blank, is_word, lines_of, words_of}
use Rattle.obj_source.specs.Mesh.{MeshSoFar, nothing, with_line, read_lines, ended_lines, mesh}

-- a byte that parts words or begins a comment
abbrev pub parts_words : ℕ → Bool
parts_words b = is_blank b || is_hash b

-- a byte before which a word has ended
abbrev pub ends_word : ℕ → Bool
ends_word b = parts_words b || is_line_feed b

-- a byte that ends a part of a line
abbrev pub ends_token : ScanState → ℕ → Bool
ends_token Skipping b = is_line_feed b
ends_token _ b = ends_word b

-- The lines that ended in the text gave this mesh, and the next one, of this number, begins with the bytes
-- `begun`: so whatever follows, it is read as if those bytes stood before it.
pub record LinesRead (scale : ℕ) (text : List ℕ) (mesh_so_far : MeshSoFar) (line : ℕ) (begun : List ℕ) : Type 0 where
  pub one_line : All (λ b. is_line_feed b ≡ false) begun
  pub all : (rest : List ℕ) → read_lines scale nothing 1 (lines_of (text ++ rest)) ≡ read_lines scale mesh_so_far line
      (lines_of (begun ++ rest))
  pub ended : (rest : List ℕ) → read_lines scale nothing 1
      (ended_lines (text ++ rest)) ≡ read_lines scale mesh_so_far line (ended_lines (begun ++ rest))

-- The words of a line that begins with the bytes `begun` are these, and those of `word` with what follows.
pub record WordsRead (begun word : List ℕ) (words : List (List ℕ)) : Type 0 where
  pub inside : All (λ b. parts_words b ≡ false) word
  pub go_on : (rest : List ℕ) → words_of (begun ++ rest) ≡ words ++ words_of (word ++ rest)

-- what is a word of what stands between two blanks
abbrev pub kept : List ℕ → List (List ℕ)
kept word = filter is_word (word ∷ [])

-- the builder stands for these words of the open line, on a grid of `scale` steps to the unit
abbrev pub StandsOn : MeshBuilder → ℕ → MeshSoFar → ℕ → List (List ℕ) → Type 0
StandsOn builder scale mesh_so_far line words = (builder.scale ≡ scale) × Stands builder mesh_so_far line words

-- the same, and where the rest of the line is passed over, for these words and any that follow
abbrev pub StandsAt : ScanState → MeshBuilder → ℕ → MeshSoFar → ℕ → List (List ℕ) → Type 0
StandsAt First builder scale mesh_so_far line words = (words ≡ []) × StandsOn builder scale mesh_so_far line []
StandsAt Later builder scale mesh_so_far line words = StandsOn builder scale mesh_so_far line words
StandsAt Skipping builder scale mesh_so_far line words =
    (more : List (List ℕ)) → StandsOn builder scale mesh_so_far line (words ++ more)

-- the builder stands for the open line as far as it came
abbrev pub LineRead : ScanState → MeshBuilder → List ℕ → ℕ → MeshSoFar → ℕ → List ℕ → Type 0
LineRead First builder word scale mesh_so_far line begun =
    StandsOn builder scale mesh_so_far line [] × WordsRead begun word []
LineRead Later builder word scale mesh_so_far line begun =
    (words : List (List ℕ)) × StandsOn builder scale mesh_so_far line words × WordsRead begun word words
LineRead Skipping builder word scale mesh_so_far line begun =
    (word ≡ []) × ((rest : List ℕ) → StandsOn builder scale mesh_so_far line (words_of (begun ++ rest)))

-- what a builder can go on from: its line's number and the count of the line's corners are at most these
pub record IsReady (builder : MeshBuilder) (line corners : ℕ) : Type 0 where
  pub scale_range : IsScale builder.scale
  pub triangle_limit : length builder.triangles.items ≤ MAX_TRIANGLES
  pub line_fits : builder.line ≤ line
  pub corners_fit : corner_count builder.line_state ≤ corners

-- the line was judged: the builder stands for it, and for no word of the next one
pub record LineJudged (builder : MeshBuilder) (scale : ℕ) (mesh_so_far : MeshSoFar) (line : ℕ)
    (words : List (List ℕ)) : Type 0 where
  pub judged : with_line scale mesh_so_far line words ≡ Ok (so_far builder)
  pub stands : StandsOn builder scale (so_far builder) (line + 1) []

-- these bytes of a text were taken in
pub record HasTaken (scanner : ObjScanner) (scale : ℕ) (text : List ℕ) : Type 0 where
  pub mesh_so_far : MeshSoFar
  pub line : ℕ
  pub begun : List ℕ
  pub lines : LinesRead scale text mesh_so_far line begun
  pub words : LineRead scanner.state scanner.builder scanner.word.items scale mesh_so_far line begun
  pub ready : IsReady scanner.builder (length text + 1) (length text)

-- some text was taken in, and with so many bytes more it is short enough
abbrev pub HasRoom : ObjScanner → ℕ → Type 0
HasRoom scanner more =
    (scale : ℕ) × (text : List ℕ) × HasTaken scanner scale text × (length text + more ≤ MAX_OBJ_BYTES)

-- the first fault of every text that begins with this one stands in a line that ended in it
pub record IsFirstFault (scale : ℕ) (text : List ℕ) (fault : ObjFault) : Type 0 where
  pub all : (rest : List ℕ) → read_lines scale nothing 1 (lines_of (text ++ rest)) ≡ Err fault
  pub ended : (rest : List ℕ) → read_lines scale nothing 1 (ended_lines (text ++ rest)) ≡ Err fault

-- what a refusal says, where P holds of the fault of a line
abbrev pub OnLineFault : (ObjFault → Type 0) → ObjFault → Type 0
OnLineFault P (Line line why) = P (Line line why)
OnLineFault P TooMany = P TooMany
OnLineFault P Memory = Unit {0}
OnLineFault P _ = ⊥

-- what a refusal at its end says of a text
abbrev pub RefusedAtEnd : ℕ → List ℕ → ObjFault → Type 0
RefusedAtEnd scale text Empty = mesh scale text ≡ Err Empty
RefusedAtEnd scale text fault = OnLineFault (λ f. mesh scale text ≡ Err f) fault
