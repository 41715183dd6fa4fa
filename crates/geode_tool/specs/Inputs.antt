-- What a command can be held to of its inputs, and what contracts see of the input, the page sources and the output.
use Rattle.std.specs.Prelude.{ℕ, suc, List, [], ◌∷◌, length, Bool, Option, None}

-- each part known or not by itself: a source over memory tells its bytes, standard input and a file do not
pub record Inputs : Type 0 where
  -- the bytes that the input has left
  pub text : Option (List ℕ)
  -- the bytes of the first page source, if there is one and it tells them
  pub pages : Option (List ℕ)
  -- the number of page sources
  pub sources : ℕ

-- the inputs where no page source was handed in
abbrev pub inputs_of : Option (List ℕ) → Inputs
inputs_of left = record { text = left; pages = None; sources = 0 }

-- the page sources at one moment
pub record Sources : Type 0 where
  -- the bytes of the first source, if there is one and it tells them
  pub bytes : Option (List ℕ)
  -- the number of sources
  pub count : ℕ
  -- how often the first source failed so far
  pub faults : ℕ

abbrev pub no_sources : Sources
no_sources = record { bytes = None; count = 0; faults = 0 }

-- what contracts see of a list of page sources
abbrev pub sources_of : {P : Type 0} → (P → Option (List ℕ)) → (P → ℕ) → List P → Sources
sources_of holds faults [] = no_sources
sources_of holds faults (first ∷ rest) =
    record { bytes = holds first; count = suc (length rest); faults = faults first }

-- the input, the page sources and the output at one moment
pub record Streams (K : Type 0) : Type 0 where
  pub inputs : Inputs
  -- how often the input failed so far
  pub input_faults : ℕ
  -- how often the first page source failed so far
  pub source_faults : ℕ
  -- the bytes that were written, if they are known
  pub written : Option (List ℕ)
  -- whether no byte was written after the last successful flush
  pub flushed : Bool
  -- how often the output failed so far
  pub output_faults : ℕ
  -- the output itself
  pub output : K

-- the input and the output, where no page source was handed in
abbrev pub streams : {K : Type 0} → Option (List ℕ) → ℕ → Option (List ℕ) → Bool → ℕ → K → Streams K
streams left input_faults written flushed output_faults output = record {
  inputs = inputs_of left;
  input_faults = input_faults;
  source_faults = 0;
  written = written;
  flushed = flushed;
  output_faults = output_faults;
  output = output;
}

-- the inputs, with these page sources
abbrev pub inputs_with : Sources → Inputs → Inputs
inputs_with sources inputs =
    record { text = inputs.text; pages = sources.bytes; sources = sources.count }

-- the streams, with these page sources
abbrev pub with_sources : {K : Type 0} → Sources → Streams K → Streams K
with_sources sources seen = record {
  inputs = inputs_with sources seen.inputs;
  input_faults = seen.input_faults;
  source_faults = sources.faults;
  written = seen.written;
  flushed = seen.flushed;
  output_faults = seen.output_faults;
  output = seen.output;
}
