-- The typing part of demand 3 on token lists: a text with one function replaced is accepted exactly if that function
-- is, against the headers, and all other functions are read as before.
use Rattle.std.specs.Prelude.{Err, Ok, Result}
use Prim.Native.Nat.{ℕ, zero, suc, ◌+◌, ◌≤◌, ◌<◌}
use mathlib.Core.Path.{◌≡◌, refl, sym, ap, subst, ◌∙◌}
use mathlib.Core.List.{List, [], ◌∷◌, ◌++◌}
use mathlib.Core.Bool.{false}
use native.Mathlib.Omega.{arith}
use native.Mathlib.Decide.{ℕ_discrete}
use borrow.Author.Tests.{ne_eqb}
use lib.Dec.{eqb}
use lib.ListN.{length, get_or, replicate, length-replicate}
use Rattle.lexer.specs.Decoded.{Tok, token_at}
use Rattle.parser.specs.Moved.{Move, SimName, SimNumber, SimClose, Each, Rel}
use Rattle.parser.specs.declared.Refusal.{Refusal}
use Rattle.parser.specs.declared.Variable.{Variable}
use Rattle.parser.proofs.Sim.{eqb_s}
use Rattle.body.proofs.SimBody.{number_of}
use Rattle.body.proofs.SimItems.{count_s}
use Rattle.functions.specs.Known.{Known, types_after, formal_types}
use Rattle.functions.specs.Functions.{Function, function, no_function, Program, program_then, known_of}
use Rattle.functions.specs.Functions.{functions_d, program_d}
use Rattle.functions.specs.Moved.{SimKnown, SimFunction, SimProgram}
use Rattle.functions.proofs.SimFunctions.{formal_types_s, functions_s}
use Rattle.sema.specs.Typing.{Global}
use Rattle.sema.specs.Program.{globals_of, type_program_d as typed_d}
use Rattle.unit.specs.Outcome.{checked, refused, after_typing, after_parsing, unit_d, untyped}
use Rattle.related.specs.Tables.{Tables, SameGlobals, SameHead, All}
use Rattle.related.specs.Runs.{Place, start, behind_one, behind_all, function_here, functions_here, all_then}
use Rattle.related.specs.Edited.{Fits, Edited, Replaced, EditedBehind, EditedRead}
use Rattle.related.proofs.SimProgram.{globals_of_s}
use Rattle.related.proofs.Onward.{function-on}
use Rattle.related.proofs.Running.{turn_read, turn_refused, run_on, Turn, turn, Cut, cut, on-by, run_onward}
use Rattle.related.proofs.SimRuns.{Along, along}
use Rattle.related.proofs.Typings.{FineIn, each-fine, one_decides, all_from, all-to}

-- Empty tables. ------------------------------------------------------------------------------------------------------

pub blank_cell : (n x : ℕ) → ◌≡◌ {A = ℕ} (get_or (replicate n 0) x 0) 0
blank_cell zero x = refl
blank_cell (suc n) zero = refl
blank_cell (suc n) (suc x) = blank_cell n x

pub blanks : {m : Move} (k : ℕ) → m.names ≤ k → ((x : ℕ) → x < m.names → m.name x < k)
    → Tables m (replicate k 0) (replicate k 0)
blanks {m} k few low =
    record {
      same = λ x h. blank_cell k (m.name x) ∙ sym (blank_cell k x);
      room = λ x h. rw length-replicate (low x h);
      room' = rw length-replicate few;
    }

pub untyped_s : {m : Move} → Fits m → Tables m untyped untyped
untyped_s f = blanks 1024 f.few f.low

-- Programs. ----------------------------------------------------------------------------------------------------------

pub then_functions : (fs : List Function) (u : Program) → (all_then fs u).functions ≡ fs ++ u.functions
then_functions [] u = refl
then_functions (f ∷ fs) u = ap (λ (gs : List Function). f ∷ gs) (then_functions fs u)

pub then_end_lem : (fs : List Function) (u : Program) → (all_then fs u).end ≡ u.end
then_end_lem [] u = refl
then_end_lem (f ∷ fs) u = then_end_lem fs u

-- an accepted text was parsed to its end, and its typing was fine
pub record Accepted (ts : List Tok) (fs : List Function) : Type 0 where
  pub functions : (program_d ts).functions ≡ fs
  pub next : ℕ
  pub end : (program_d ts).end ≡ Ok next
  pub fine : (typed_d ts fs fs untyped).end ≡ (Ok tt)

pub typed-fine : (fs gs : List Function) (c : Result Unit Refusal) → after_typing gs c ≡ checked fs → (gs ≡ fs) × (c ≡ (Ok tt))
typed-fine fs gs (Ok tt) e = (cc, refl)
typed-fine fs gs (Err x) e = let z : ◌≡◌ {A = ℕ} 0 1 = cc in absurd (omega arith)

pub parsed_fine : (ts : List Tok) (fs gs : List Function) (c : Result ℕ Refusal) → after_parsing ts gs c ≡ checked fs
    → (gs ≡ fs) × ((typed_d ts gs gs untyped).end ≡ (Ok tt)) × ((next : ℕ) × (c ≡ Ok next))
parsed_fine ts fs gs (Ok next) e =
    let t = typed-fine fs gs (typed_d ts gs gs untyped).end e in
    (t.0, t.1, (next, refl))
parsed_fine ts fs gs (Err x) e = let z : ◌≡◌ {A = ℕ} 0 1 = cc in absurd (omega arith)

pub accepted-by : (ts : List Tok) (fs : List Function) → unit_d ts ≡ checked fs → Accepted ts fs
unfolding unit_d
accepted-by ts fs e =
    let p = parsed_fine ts fs (program_d ts).functions (program_d ts).end e in
    record {
      functions = p.0;
      next = p.2.0;
      end = p.2.1;
      fine = subst (λ (gs : List Function). (typed_d ts gs gs untyped).end ≡ (Ok tt)) p.0 p.1;
    }

pub refused-unit : (ts : List Tok) (x : Refusal) → (program_d ts).end ≡ Err x → unit_d ts ≡ refused x
unfolding unit_d
refused-unit ts x e = rw e refl

pub typed-unit : (ts : List Tok) (fs : List Function) (next : ℕ) → (program_d ts).functions ≡ fs
    → (program_d ts).end ≡ Ok next
    → unit_d ts ≡ after_typing fs (typed_d ts fs fs untyped).end
unfolding unit_d
typed-unit ts fs next p e = rw (p, e) refl

-- Names. -------------------------------------------------------------------------------------------------------------

-- a related name, taken apart
pub renamed-is : {m : Move} {x y : ℕ} → SimNumber m x y → (x ≡ m.name y) × (y < m.names)
renamed-is (SimName.renamed y h) = (refl, h)

module _ {old new : List Tok} (e : Edited old new) where
  -- a function before the replaced one, and one behind it, as calls see them
  pub head-before : {n : ℕ} {f f' : Function} → SimFunction e.front n f' f → SameHead e.Spelt f f'
  head-before {f = f} q =
      let r = renamed-is (number_of q.head.name) in
      record {
        name = rw r.0 (e.early f.head.name.0 r.1);
        ret = sym q.head.ret;
        formals = sym (formal_types_s q.head.formals);
        type = sym q.head.type;
      }

  pub head-behind : {n : ℕ} {f f' g : Function} → SimFunction e.old_back n f g → SimFunction e.new_back n f' g
      → SameHead e.Spelt f f'
  head-behind {g = g} q q' =
      let r = renamed-is (number_of q.head.name) in
      let r' = renamed-is (number_of q'.head.name) in
      record {
        name = rw (r.0, r'.0) (e.late g.head.name.0 r.1);
        ret = q.head.ret ∙ sym q'.head.ret;
        formals = formal_types_s q.head.formals ∙ sym (formal_types_s q'.head.formals);
        type = q.head.type ∙ sym q'.head.type;
      }

  pub heads_before : {n : ℕ} {fs fs' : List Function}
      → Each (SimFunction e.front n) fs' fs
      → Each (SameHead e.Spelt) fs fs'
  heads_before Each.none = Each.none
  heads_before (Each.more q r) = Each.more (head-before q) (heads_before r)

  pub heads_behind : {n : ℕ} {fs fs' gs : List Function}
      → Each (SimFunction e.old_back n) fs gs
      → Each (SimFunction e.new_back n) fs' gs → Each (SameHead e.Spelt) fs fs'
  heads_behind Each.none Each.none = Each.none
  heads_behind (Each.more q r) (Each.more q' r') =
      Each.more (head-behind q q') (heads_behind r r')

  -- Functions by name, in both texts. --------------------------------------------------------------------------------

  module _ {all all' : List Function} (heads : Each (SameHead e.Spelt) all all') where
    pub front_globals : SameGlobals e.front (globals_of all') (globals_of all)
    front_globals = record { same = λ x h. sym (globals_of_s e.apart heads (e.early x h)) }

    -- as the functions behind the replaced one see them
    abbrev pub own_globals : ℕ → Global
    own_globals z = globals_of all (e.old_back.name z)

    pub old_globals : SameGlobals e.old_back (globals_of all) own_globals
    old_globals = record { same = λ z h. refl }

    pub new_globals : SameGlobals e.new_back (globals_of all') own_globals
    new_globals =
        record {
          same = λ z h. sym (globals_of_s e.apart heads (e.late z (rw (← e.as_many) h)));
        }

  -- Headers so far, in both texts. -----------------------------------------------------------------------------------

  pub record SameKnown (k k' : Known) : Type 0 where
    pub name : e.Spelt k.name k'.name
    pub type : k.type ≡ k'.type
    pub signed : k.signed ≡ k'.signed

  -- the same headers as the functions behind see them: each name by its number in `rest`, or by one that no name has
  -- there
  pub record Shared (ks ks' : List Known) : Type 0 where
    pub own : List Known
    pub olds : Each (SimKnown e.old_back) ks own
    pub news : Each (SimKnown e.new_back) ks' own

  pub record Numbered (x : ℕ) : Type 0 where
    pub number : ℕ
    pub told : (z : ℕ) → z < e.old_back.names → eqb x (e.old_back.name z) ≡ eqb number z

  pub shared_one : {k k' : Known} → SameKnown k k' → Numbered k.name → Known
  shared_one {k} q w = record { name = w.number; type = k.type; signed = k.signed }

  pub shared_old : {k k' : Known} (q : SameKnown k k') (w : Numbered k.name)
      → SimKnown e.old_back k (shared_one q w)
  unfolding shared_one
  shared_old q w = record { name = w.told; type = refl; signed = refl }

  pub shared_new : {k k' : Known} (q : SameKnown k k') (w : Numbered k.name)
      → SimKnown e.new_back k' (shared_one q w)
  unfolding shared_one
  shared_new {k} {k'} q w =
      record {
        name = λ z h. let l : z < e.old_back.names = rw (← e.as_many) h in
            sym (e.apart k.name k'.name (e.old_back.name z) (e.new_back.name z) q.name (e.late z l))
            ∙ w.told z l;
        type = sym q.type;
        signed = sym q.signed;
      }

  -- the number in `rest` of an old name, sought from above
  abbrev NoneFrom : ℕ → ℕ → Type 0
  NoneFrom x n = (z : ℕ) → z < e.old_back.names → n ≤ z → eqb x (e.old_back.name z) ≡ false

  one_more_lem : (x n : ℕ) → (x ≡ e.old_back.name n → ⊥) → NoneFrom x (suc n) → NoneFrom x n
  one_more_lem x n w none z h g = by (ℕ_discrete z n)
    where
      by : Dec (z ≡ n) → eqb x (e.old_back.name z) ≡ false
      by (yes y) = rw y (ne_eqb x (e.old_back.name n) w)
      by (no y) = none z h (omega arith)

  sought : (x n : ℕ) → n < e.old_back.names → NoneFrom x (suc n) → (NoneFrom x n → Numbered x)
      → Dec (x ≡ e.old_back.name n) → Numbered x
  sought x n l none on (yes w) =
      record {
        number = n;
        told = λ z h. rw w (eqb_s {m = e.old_back} (SimName.renamed n l) (SimName.renamed z h));
      }
  sought x n l none on (no w) = on (one_more_lem x n w none)

  seek : (x n : ℕ) → n ≤ e.old_back.names → NoneFrom x n → Numbered x
  seek x zero l none =
      record {
        number = e.old_back.names;
        told = λ z h. none z h (omega arith) ∙ sym (ne_eqb e.old_back.names z (λ w. omega (arith, w)));
      }
  seek x (suc n) l none =
      sought x n l none (λ fewer. seek x n (omega arith) fewer) (ℕ_discrete x (e.old_back.name n))

  pub numbered : (x : ℕ) → Numbered x
  numbered x = seek x e.old_back.names (omega arith) (λ z h g. absurd (omega arith))

  pub shared : {ks ks' : List Known} → Each SameKnown ks ks' → Shared ks ks'
  shared Each.none = record { own = []; olds = Each.none; news = Each.none }
  shared (Each.more {x = k} q r) =
      let more = shared r in
      let w = numbered k.name in
      record {
        own = shared_one q w ∷ more.own;
        olds = Each.more (shared_old q w) more.olds;
        news = Each.more (shared_new q w) more.news;
      }

pub types-length : (vs : List Variable) → length (formal_types vs) ≡ length vs
unfolding formal_types
types-length [] = refl
types-length (v ∷ vs) = ap suc (types-length vs)

-- a kept header is the same as later ones see it
pub known_kept : {old new : List Tok} (e : Edited old new) {f f' : Function} → SameHead e.Spelt f f'
    → SameKnown e (known_of f.head) (known_of f'.head)
known_kept e {f} {f'} q =
    let n : length f.head.formals ≡ length f'.head.formals =
    sym (types-length f.head.formals)
    ∙ (ap (λ (l : List ℕ). length l) q.formals ∙ types-length f'.head.formals) in
    record { name = q.name; type = q.type; signed = rw (q.ret, n, q.formals) refl }

-- Lists. -------------------------------------------------------------------------------------------------------------

pub each_append : {A : Type 0} {R : A → A → Type 0} {xs xs' ys ys' : List A} → Each R xs xs' → Each R ys ys'
    → Each R (xs ++ ys) (xs' ++ ys')
each_append Each.none q = q
each_append (Each.more p r) q = Each.more p (each_append r q)

pub all_parts : {A : Type 0} {Q : A → Type 0} (xs : List A) (y : A) (ys : List A) → All Q (xs ++ (y ∷ ys))
    → All Q xs × All Q ys
all_parts [] y ys (All.more q r) = (All.none, r)
all_parts (x ∷ xs) y ys (All.more q r) = let p = all_parts xs y ys r in (All.more q p.0, p.1)

-- the same headers so far, and the same ones behind them
known-along : {old new : List Tok} (e : Edited old new) (p p' : Place) {fs fs' : List Function}
    → Each (SameKnown e) p.known p'.known → Each (SameHead e.Spelt) fs fs'
    → Each (SameKnown e) (behind_all p fs).known (behind_all p' fs').known
known-along e p p' k Each.none = k
known-along e p p' k (Each.more {x = f} {x' = f'} q r) =
    known-along e (behind_one p f) (behind_one p' f') (each_append k (Each.more (known_kept e q) Each.none)) r

-- where both readings end
pub end-own : {m : Move} {n : ℕ} {c c' : Result ℕ Refusal} (next : ℕ) → SimClose m n c c' → c ≡ Ok next
    → (i : ℕ) × (c' ≡ Ok i)
end-own next (SimClose.at i h) e = (i, refl)
end-own next (SimClose.refused x x' r) e = let z : ◌≡◌ {A = ℕ} 0 1 = cc in absurd (omega arith)

pub end-new : {m : Move} {n : ℕ} {c c' : Result ℕ Refusal} (i : ℕ) → SimClose m n c c' → c' ≡ Ok i
    → (next : ℕ) × (c ≡ Ok next)
end-new {m} i (SimClose.at j h) e = (m.by + j, refl)
end-new i (SimClose.refused x x' r) e = let z : ◌≡◌ {A = ℕ} 0 1 = cc in absurd (omega arith)

pub program_of : {m : Move} {n : ℕ} {u u' : Program} → Rel m n SimProgram u u' → SimProgram m n u u'
program_of (Rel.is q) = q

-- THE THEOREM. -------------------------------------------------------------------------------------------------------

-- the old text's end token
abbrev pub last_of : {old new : List Tok} → Edited old new → ℕ
last_of e = e.old_back.by + e.count

module _ {old new : List Tok} {e : Edited old new} {before behind : List Function} {replaced : Function}
    (r : Replaced e before replaced behind) where
  pub was : Accepted old (before ++ (replaced ∷ behind))
  was = accepted-by old _ r.accepted

  pub parts : Cut old 64 start before (replaced ∷ behind)
  parts = cut old 64 start before (replaced ∷ behind) was.functions

  pub its_turn : Turn old parts.left (behind_all start before) replaced behind
  its_turn = turn old parts.left (behind_all start before) replaced behind parts.rest

  pub reached : (0 ≤ (behind_all start before).at) × ((behind_all start before).at ≤ last_of e)
  reached = run_onward (last_of e) e.ends_old (omega arith) parts.run

  pub stands : (behind_all start before).at ≡ e.starts
  stands =
      let o =
      on-by (function-on old (last_of e) e.ends_old false (behind_all start before).known
      (behind_all start before).types
      (behind_all start before).at reached.1) its_turn.read in
      sym o.0 ∙ r.stood

  -- the functions before the replaced one, in the new text
  pub in_front : Along e.front e.starts new start start before
  in_front =
      let still : ◌≡◌ {A = ℕ} 0 (e.front.by + 0) = omega (arith, e.still) in
      along e.before (last_of e) e.ends_old (record { known = Each.none; types = refl; at = still }) (omega arith)
      (omega (arith, stands)) parts.run

  -- .. as later ones see them
  pub known-front : Each (SameKnown e) (behind_all start before).known (behind_all start in_front.functions).known
  known-front = known-along e start start Each.none (heads_before e in_front.same)

  pub begun : (token_at new (behind_all start in_front.functions).at).kind ≡ 38 → ⊥
  begun z =
      let there : (behind_all start in_front.functions).at ≡ e.starts =
      omega (arith, in_front.reached.at, stands, e.still) in
      let two : (token_at new (behind_all start in_front.functions).at).kind ≡ 2 =
      ap (λ (i : ℕ). (token_at new i).kind) there ∙ e.begins in
      omega (arith, z, two)

  -- room for as many functions as in the old text
  pub room : 64 ≡ length in_front.functions + suc its_turn.left
  room = omega (arith, parts.room_is, its_turn.room_is, count_s in_front.same)

  pub read-front : program_d new
      ≡ all_then in_front.functions (functions_here new (suc its_turn.left) (behind_all start in_front.functions))
  read-front =
      ap (λ (k : ℕ). functions_here new k start) room ∙ run_on (suc its_turn.left) in_front.run

  -- the new function is refused
  pub refused_there : (x : Refusal) → function_here new (behind_all start in_front.functions) ≡ no_function x
      → unit_d new ≡ refused x
  refused_there x q =
      let stop = turn_refused new its_turn.left (behind_all start in_front.functions) x begun q in
      refused-unit new x
      (ap (λ (u : Program). u.end) read-front
      ∙ (then_end_lem in_front.functions _ ∙ ap (λ (u : Program). u.end) stop))

  -- The new function is read, ends where the old one ended, and keeps its header. ------------------------------------

  module _ {f : Function} (q : function_here new (behind_all start in_front.functions) ≡ function f)
      (n : f.next ≡ e.new_back.by) (h : SameHead e.Spelt replaced f) where
    -- the headers so far, as all functions behind see them
    pub headers : Shared e (behind_one (behind_all start before) replaced).known
        (behind_one (behind_all start in_front.functions) f).known
    headers = shared e (each_append (known-front) (Each.more (known_kept e h) Each.none))

    pub types : ℕ
    types = types_after (behind_all start before).types replaced.head.type

    pub types_same : types_after (behind_all start in_front.functions).types f.head.type ≡ types
    unfolding types
    types_same =
        ap (λ (k : ℕ). types_after k f.head.type) in_front.reached.types
        ∙ ap (λ (k : ℕ). types_after (behind_all start before).types k) (sym h.type)

    -- the functions behind, in their own tokens
    pub own : Program
    own = functions_d e.rest its_turn.left headers.own types 0

    pub old_is : functions_here old its_turn.left (behind_one (behind_all start before) replaced)
        ≡ functions_d old its_turn.left (behind_one (behind_all start before) replaced).known types
        (e.old_back.by + 0)
    unfolding types
    old_is =
        let z : replaced.next ≡ e.old_back.by + 0 = omega (arith, r.closed) in
        ap (λ (i : ℕ). functions_d old its_turn.left (behind_one (behind_all start before) replaced).known types i) z

    pub new_is : functions_here new its_turn.left (behind_one (behind_all start in_front.functions) f)
        ≡ functions_d new its_turn.left (behind_one (behind_all start in_front.functions) f).known types
        (e.new_back.by + 0)
    new_is =
        let z : f.next ≡ e.new_back.by + 0 = omega (arith, n) in
        let known = (behind_one (behind_all start in_front.functions) f).known in
        ap (λ (k : ℕ). functions_d new its_turn.left known k f.next) types_same
        ∙ ap (λ (i : ℕ). functions_d new its_turn.left known types i) z

    -- .. which they are in both texts, moved and renamed
    old_own : SimProgram e.old_back e.count
        (functions_d old its_turn.left (behind_one (behind_all start before) replaced).known types
        (e.old_back.by + 0)) own
    unfolding own
    old_own =
        program_of
        (functions_s e.behind_old e.ends_old e.ends_rest its_turn.left headers.olds types 0
        (omega arith))

    new-own : SimProgram e.new_back e.count
        (functions_d new its_turn.left (behind_one (behind_all start in_front.functions) f).known types
        (e.new_back.by + 0)) own
    unfolding own
    new-own =
        program_of
        (functions_s e.behind_new e.ends_new e.ends_rest its_turn.left headers.news types 0
        (omega arith))

    pub old_each : Each (SimFunction e.old_back e.count) behind own.functions
    old_each =
        subst (λ (fs : List Function). Each (SimFunction e.old_back e.count) fs
        own.functions)
        (sym (ap (λ (u : Program). u.functions) old_is) ∙ its_turn.rest)
        old_own.functions

    pub new-behind : List Function
    new-behind = (functions_here new its_turn.left (behind_one (behind_all start in_front.functions) f)).functions

    pub new-each : Each (SimFunction e.new_back e.count) new-behind own.functions
    unfolding new-behind
    new-each =
        subst (λ (fs : List Function). Each (SimFunction e.new_back e.count) fs
        own.functions)
        (sym (ap (λ (u : Program). u.functions) new_is))
        new-own.functions

    -- the new text is read to its end
    pub new-end : (next : ℕ) ×
        ((functions_here new its_turn.left (behind_one (behind_all start in_front.functions) f)).end ≡ Ok next)
    new-end =
        let stopped : (functions_here old its_turn.left (behind_one (behind_all start before) replaced)).end ≡ Ok was.next =
        sym its_turn.end ∙ (sym parts.end ∙ was.end) in
        let o = end-own was.next old_own.end (sym (ap (λ (u : Program). u.end) old_is) ∙ stopped) in
        let w = end-new o.0 new-own.end o.1 in
        (w.0, ap (λ (u : Program). u.end) new_is ∙ w.1)

    pub all_new_lem : List Function
    all_new_lem = in_front.functions ++ (f ∷ new-behind)

    pub program_new : program_d new
        ≡ all_then in_front.functions
        (program_then f (functions_here new its_turn.left (behind_one (behind_all start in_front.functions) f)))
    program_new =
        read-front
        ∙ ap (λ (u : Program). all_then in_front.functions u)
        (turn_read new its_turn.left (behind_all start in_front.functions) f begun q)

    pub functions-new : (program_d new).functions ≡ all_new_lem
    unfolding all_new_lem new-behind
    functions-new = ap (λ (u : Program). u.functions) program_new ∙ then_functions in_front.functions _

    -- functions by name
    pub heads : Each (SameHead e.Spelt) (before ++ (replaced ∷ behind)) all_new_lem
    unfolding all_new_lem
    heads = each_append (heads_before e in_front.same) (Each.more h (heads_behind e old_each new-each))

    pub fine_old : All (FineIn old (before ++ (replaced ∷ behind)) untyped) before
        × All (FineIn old (before ++ (replaced ∷ behind)) untyped) behind
    fine_old = all_parts before replaced behind (each-fine old (before ++ (replaced ∷ behind)) untyped _ was.fine)

    pub fine-front : All (FineIn new all_new_lem untyped) in_front.functions
    fine-front = all_from e.before (front_globals e heads) (untyped_s e.front_fits) in_front.same fine_old.0

    pub fine_back : All (FineIn new all_new_lem untyped) new-behind
    fine_back =
        all_from e.behind_new (new_globals e heads) (untyped_s e.new_fits) new-each
        (all-to e.behind_old (old_globals e heads) (untyped_s e.old_fits) old_each fine_old.1)

    pub read_there : EditedBehind e in_front.functions behind f
    unfolding all_new_lem
    read_there =
        record {
          behind' = new-behind;
          own = own.functions;
          read_old = old_each;
          read-new = new-each;
          answer =
              typed-unit new all_new_lem new-end.0 functions-new
              (ap (λ (u : Program). u.end) program_new ∙ (then_end_lem in_front.functions _ ∙ new-end.1))
              ∙ ap (λ (c : Result Unit Refusal). after_typing all_new_lem c) (one_decides new all_new_lem untyped f fine-front fine_back);
        }

  -- A text with one function replaced is read as before but for that function, and is accepted or refused as that
  -- function is.
  pub edited : EditedRead e before replaced behind
  edited =
      record {
        before' = in_front.functions;
        read = in_front.same;
        not-read = refused_there;
        read-on = λ f q n h. read_there q n h;
      }
