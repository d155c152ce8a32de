-- Circuits of gates, the text that writes one down, and which are well formed. Assumes nothing.
use Rattle.std.specs.Prelude.{◌≡◌, ℕ, ◌+◌, ◌*◌, ◌<◌, ◌≤◌, List, [], ◌∷◌, ◌++◌, map, length}
use Rattle.std.specs.List.{flat_map}
use Rattle.lines.specs.declared.Op.{Op}
use Rattle.lines.specs.declared.Op.TheVariants as op
use Rattle.lines.specs.declared.Head.TheVariants.{Words, Out}
use Rattle.lines.specs.declared.Head.TheVariants as head
use Rattle.netlist.specs.declared.gate.Net.{Net}
use Rattle.netlist.specs.declared.gate.Gate.{Gate}
use Rattle.netlist.specs.declared.gate.Gate.TheVariants.{And, Or, Xor, Nand, Nor, Xnor, Not, Buf, Zero, One}
use Rattle.lines.specs.Text.{line}

-- What a gate does with its nets.
abbrev pub op_of : Gate → Op
op_of (And x y) = op.And
op_of (Or x y) = op.Or
op_of (Xor x y) = op.Xor
op_of (Nand x y) = op.Nand
op_of (Nor x y) = op.Nor
op_of (Xnor x y) = op.Xnor
op_of (Not x) = op.Not
op_of (Buf x) = op.Buf
op_of Zero = op.Zero
op_of One = op.One

-- The nets that a gate reads, in their order.
abbrev pub nets_of : Gate → List ℕ
nets_of (And x y) = x.0 ∷ y.0 ∷ []
nets_of (Or x y) = x.0 ∷ y.0 ∷ []
nets_of (Xor x y) = x.0 ∷ y.0 ∷ []
nets_of (Nand x y) = x.0 ∷ y.0 ∷ []
nets_of (Nor x y) = x.0 ∷ y.0 ∷ []
nets_of (Xnor x y) = x.0 ∷ y.0 ∷ []
nets_of (Not x) = x.0 ∷ []
nets_of (Buf x) = x.0 ∷ []
nets_of Zero = []
nets_of One = []

-- The line of a gate.
abbrev pub gate_line : Gate → List ℕ
gate_line g = line (head.Gate (op_of g)) (nets_of g)

-- A circuit: so many input words of so many bits, its gates, and its output nets, lowest bit first.
pub record Circuit : Type 0 where
  pub words : ℕ
  pub width : ℕ
  pub gates : List Gate
  pub outs : List ℕ

-- How many nets the inputs drive; they come first.
abbrev pub inputs : Circuit → ℕ
inputs c = c.words * c.width

-- How many nets are driven in all: the inputs' nets, then each gate's, in order.
abbrev pub nets : Circuit → ℕ
nets c = inputs c + length c.gates

-- The text of a circuit: the words line, the gates' lines, the out line.
abbrev pub text_of : Circuit → List ℕ
text_of c = line Words (c.words ∷ c.width ∷ []) ++ (flat_map gate_line c.gates ++ line Out c.outs)

-- Each net is below `d`.
abbrev pub Below : ℕ → List ℕ → Type 0
Below d [] = Unit {0}
Below d (v ∷ vs) = (v < d) × Below d vs

-- With `d` nets driven before them, the gates drive nets up to 255, and each reads nets driven before it.
abbrev pub Driven : ℕ → List Gate → Type 0
Driven d [] = Unit {0}
Driven d (g ∷ gs) = (d < 256) × Below d (nets_of g) × Driven (d + 1) gs

-- 1 to 3 words of 2 to 8 bits.
pub record InRange (n k : ℕ) : Type 0 where
  pub some_word : 1 ≤ n
  pub few_words : n ≤ 3
  pub some_bits : 2 ≤ k
  pub few_bits : k ≤ 8

-- The sizes are in range, each gate reads nets driven before it, and there is a driven output net for each bit of a word.
pub record WellFormed (c : Circuit) : Type 0 where
  pub range : InRange c.words c.width
  pub driven : Driven (inputs c) c.gates
  pub as_wide : length c.outs ≡ c.width
  pub outputs : Below (nets c) c.outs

-- The numbers of nets.
abbrev pub net_numbers : List Net → List ℕ
net_numbers ns = map (λ x. x.0) ns

-- The circuit of these gates and output nets.
abbrev pub circuit_of : ℕ → ℕ → List Gate → List Net → Circuit
circuit_of words width gates outs = record { words = words; width = width; gates = gates; outs = net_numbers outs }
