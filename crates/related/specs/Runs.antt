-- Reading functions one after the other (crates/functions/specs/Functions.antt, functions_d), cut where one likes: the
-- functions so far say how reading goes on.
use Rattle.std.specs.Prelude.{ℕ, ◌≡◌, List, [], ◌∷◌, ◌++◌, false}
use Rattle.lexer.specs.Decoded.{Tok, token_at}
use Rattle.functions.specs.Known.{Known, types_after}
use Rattle.functions.specs.Functions.{Function, FunctionAt, function, Program, program_then, known_of, function_d}
use Rattle.functions.specs.Functions.{functions_d}
use Rattle.pieces.specs.Kinds as K

-- where reading is: the functions so far as later ones see them, how many function types there are, the next token
pub record Place : Type 0 where
  pub known : List Known
  pub types : ℕ
  pub at : ℕ

abbrev pub start : Place
start = record { known = []; types = 0; at = 0 }

-- behind one function more, and behind several
abbrev pub behind_one : Place → Function → Place
behind_one p f =
    record {
      known = p.known ++ (known_of f.head ∷ []);
      types = types_after p.types f.head.type;
      at = f.next;
    }

abbrev pub behind_all : Place → List Function → Place
behind_all p [] = p
behind_all p (f ∷ fs) = behind_all (behind_one p f) fs

-- the function that stands here
abbrev pub function_here : List Tok → Place → FunctionAt
function_here ts p = function_d ts false p.known p.types p.at

-- all functions from here on
abbrev pub functions_here : List Tok → ℕ → Place → Program
functions_here ts room p = functions_d ts room p.known p.types p.at

-- these functions stand here, one after the other
pub data Run (ts : List Tok) : Place → List Function → Type 0 where
  none : {p : Place} → Run ts p []
  more : {p : Place} {f : Function} {fs : List Function} → ((token_at ts p.at).kind ≡ K.end_of_file → ⊥)
      → function_here ts p ≡ function f → Run ts (behind_one p f) fs → Run ts p (f ∷ fs)

-- these functions, and then those of a program
abbrev pub all_then : List Function → Program → Program
all_then [] u = u
all_then (f ∷ fs) u = program_then f (all_then fs u)
