-- An accepted text and the same text with one function replaced, as token lists (demand 3): what lexing has to say of
-- the two, and what parsing and typing then give.
use Rattle.std.specs.Prelude.{ℕ, ◌+◌, ◌≤◌, ◌<◌, ◌≡◌, List, ◌∷◌, ◌++◌}
use Rattle.lexer.specs.Decoded.{Tok, token_at}
use Rattle.pieces.specs.Kinds as T
use Rattle.parser.specs.Moved.{Move, Sim, Each}
use Rattle.utils.specs.Limits.{most_names}
use Rattle.parser.specs.declared.Refusal.{Refusal}
use Rattle.functions.specs.Functions.{Function, function, no_function}
use Rattle.functions.specs.Moved.{SimFunction}
use Rattle.sema.specs.Program.{globals_of, function_typed}
use Rattle.unit.specs.Outcome.{checked, refused, after_typing, unit_d, untyped}
use Rattle.related.specs.Tables.{SameHead, Apart}
use Rattle.related.specs.Runs.{start, behind_all, function_here}

-- a text has at most 1,024 names, before and after
pub record Fits (m : Move) : Type 0 where
  pub few : m.names ≤ most_names
  pub low : (x : ℕ) → x < m.names → m.name x < most_names

-- The tokens of both texts, from the left: `starts` tokens before the replaced function, which are the same in both;
-- that function; `count` tokens behind it, which are the tokens `rest`, moved, and the end token. `Spelt x y`: name x
-- of the old text and name y of the new one are spelled alike.
pub record Edited (old new : List Tok) : Type 1 where
  pub starts : ℕ
  pub front : Move
  pub still : front.by ≡ 0
  pub before : Sim front starts new old
  -- the new function begins with a global
  pub begins : (token_at new starts).kind ≡ T.global
  pub rest : List Tok
  pub count : ℕ
  pub old_back : Move
  pub new_back : Move
  pub behind_old : Sim old_back count old rest
  pub behind_new : Sim new_back count new rest
  pub ends_old : (token_at old (old_back.by + count)).kind ≡ T.end_of_file
  pub ends_new : (token_at new (new_back.by + count)).kind ≡ T.end_of_file
  pub ends_rest : (token_at rest count).kind ≡ T.end_of_file
  pub Spelt : ℕ → ℕ → Type 0
  pub apart : Apart Spelt
  pub as_many : new_back.names ≡ old_back.names
  pub early : (x : ℕ) → x < front.names → Spelt x (front.name x)
  pub late : (z : ℕ) → z < old_back.names → Spelt (old_back.name z) (new_back.name z)
  pub front_fits : Fits front
  pub old_fits : Fits old_back
  pub new_fits : Fits new_back

-- The old text is accepted, and `replaced` is its function that stands between the two parts.
pub record Replaced {old new : List Tok} (e : Edited old new) (before : List Function) (replaced : Function)
    (behind : List Function)
    : Type 0
  where
    pub accepted : unit_d old ≡ checked (before ++ (replaced ∷ behind))
    pub stood : replaced.token ≡ e.starts
    pub closed : replaced.next ≡ e.old_back.by

-- What parsing and typing give. --------------------------------------------------------------------------------------

-- The new function f was read, and ends where the old one ended: the functions behind it, `behind'`, are read as
-- before, each as the function of `own` that stands in `rest`, moved and renamed; and the whole text is accepted or
-- refused as f is, typed against the headers.
pub record EditedBehind {old new : List Tok} (e : Edited old new) (before' behind : List Function) (f : Function)
    : Type 0 where
  pub behind' : List Function
  pub own : List Function
  pub read_old : Each (SimFunction e.old_back e.count) behind own
  pub read-new : Each (SimFunction e.new_back e.count) behind' own
  pub answer : unit_d new
      ≡ after_typing (before' ++ (f ∷ behind')) (function_typed new (globals_of (before' ++ (f ∷ behind'))) f untyped).end

-- The functions before the replaced one are read as before. Where the new function is refused, that is the answer;
-- where it is read and keeps the header, the functions behind it are read as before, and its typing decides.
pub record EditedRead {old new : List Tok} (e : Edited old new) (before : List Function) (replaced : Function)
    (behind : List Function)
    : Type 0
  where
    pub before' : List Function
    pub read : Each (SimFunction e.front e.starts) before' before
    pub not-read : (x : Refusal) → function_here new (behind_all start before') ≡ no_function x → unit_d new ≡ refused x
    pub read-on : (f : Function) → function_here new (behind_all start before') ≡ function f → f.next ≡ e.new_back.by
        → SameHead e.Spelt replaced f
        → EditedBehind e before' behind f
