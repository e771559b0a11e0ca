-- The header table of an accepted text holds its functions, row by row: what recheck reads in a row is the function
-- that was parsed, and what it finds by a name's spelling among the rows is found so among the functions.
use Rattle.std.specs.Prelude.{Option, Some}
use Prim.Native.Nat.{ℕ, suc, ◌+◌, ◌*◌, ◌-◌, ◌≤◌, ◌<◌}
use mathlib.Core.Path.{◌≡◌, refl, sym, ap, subst, ◌∙◌}
use mathlib.Core.List.{List, [], ◌∷◌, ◌++◌}
use mathlib.Core.Bool.{Bool, true, false}
use native.Mathlib.Omega.{arith}
use native.Mathlib.Nat.{zero-add}
use lib.ListN.{length, get_or, drop, replicate}
use Rattle.utils.specs.Bytes.{pick, pad_to, same_bytes}
use Rattle.pieces.specs.declared.Identifier.{Identifier}
use Rattle.lexer.specs.Decoded.{Tok, token_at, name_of}
use Rattle.functions.specs.Functions.{Function}
use Rattle.functions.specs.Columns.{row_at, type_at, place_at, length_at, line_at, close_at}
use Rattle.functions.specs.Rows.{row_cells, signed_at}
use Rattle.functions.specs.Answer.{Slices, counts_with}
use Rattle.functions.specs.Laid.{rows_cells}
use Rattle.functions.specs.declared.Counts.{Counts}
use Rattle.functions.proofs.Standing.{cell_there, row-token, row_name_lem, row-ret, row_type, row_count, row-types}
use Rattle.functions.proofs.Standing.{row_stands, rows_behind}
use Rattle.sema.specs.Typing.{Global}
use Rattle.sema.specs.Globals.{row_global, global_of}
use Rattle.elaborate.specs.Types.{type_cell_of}
use Rattle.unit.specs.Outcome.{none}
use Rattle.checker.specs.Check.{check_of}
use Rattle.headers.specs.Ranges.{RowInRange}
use Rattle.checker.specs.Numbers.{Accepts}
use Rattle.checker.proofs.Header.{header_in_range}
use Rattle.headers.specs.Table.{is_table}
use Rattle.headers.specs.Spelled.{row_name, row_spelled, globals_spelled, callees_spelled}
use Rattle.headers.specs.Kept.{keeps}
use Rattle.headers.proofs.Ranges.{in_range_table}
use Rattle.headers.proofs.Brought.{row_name-part}
use Rattle.recheck.proofs.Laws.{padded-long}
use Rattle.related.specs.Tables.{All}
use Rattle.related.specs.Alone.{Keeps, global_spelt}
use Rattle.related.specs.Reading.{callee_spelt}
use Rattle.related.proofs.Keeping.{keeps-by}
use Rattle.edited.specs.Spelled.{spelled_alike}
use Rattle.edited.specs.Rows.{tokens_read, names_read, table_in, RowOf, RowsOf, Split, NamedAt}
use Rattle.edited.proofs.Names.{spelled_in}
use Rattle.edited.proofs.Accepted.{sound, tokens_are, names_are, unit-is, names_there}

-- Rows. --------------------------------------------------------------------------------------------------------------

module _ (text : List ℕ) (ts : List Tok) (names table : List ℕ) where
  -- the row of a function that has others before it
  row-behind : (before : List Function) (f : Function) (behind : List Function) (i : ℕ)
      → RowsOf text ts names table i (before ++ (f ∷ behind)) → RowOf text ts names table (i + length before) f
  row-behind [] f behind i r =
      let z : i + 0 ≡ i = omega arith in
      rw z r.0
  row-behind (g ∷ before) f behind i r =
      let z : i + suc (length before) ≡ i + 1 + length before = omega arith in
      rw z (row-behind before f behind (i + 1) r.1)

  global-pick : (t : Bool) (i : ℕ) (more : Option ℕ) (g others : Global) → row_global table i ≡ g
      → global_of table more ≡ others → global_of table (pick t (Some i) more) ≡ pick t g others
  unfolding pick
  global-pick true i more g others e h = e
  global-pick false i more g others e h = h

  callee-pick : (t : Bool) (i : ℕ) (more : Option ℕ) (k others : ℕ) → get_or table (type_at i) 0 ≡ k
      → type_cell_of table more ≡ others → type_cell_of table (pick t (Some i) more) ≡ pick t (k + 4) others
  unfolding pick
  callee-pick true i more k others e h = ap (λ (x : ℕ). x + 4) e
  callee-pick false i more k others e h = h

  -- what a spelling finds among the rows from row i on
  globals_from : (w : List ℕ) (fs : List Function) (i : ℕ) → RowsOf text ts names table i fs
      → global_of table (row_spelled text table i (length fs) w) ≡ global_spelt (λ y. same_bytes (name_of text names y) w) fs
  unfolding row_spelled global_spelt
  globals_from w [] i r = refl
  globals_from w (f ∷ fs) i r =
      rw r.0.name
      (global-pick (same_bytes (name_of text names f.head.name.0) w) i _ _ _ r.0.called
      (globals_from w fs (i + 1) r.1))

  callees_from : (w : List ℕ) (fs : List Function) (i : ℕ) → RowsOf text ts names table i fs
      → type_cell_of table (row_spelled text table i (length fs) w)
      ≡ callee_spelt (λ y. same_bytes (name_of text names y) w) fs
  unfolding row_spelled callee_spelt
  callees_from w [] i r = refl
  callees_from w (f ∷ fs) i r =
      rw r.0.name
      (callee-pick (same_bytes (name_of text names f.head.name.0) w) i _ _ _ r.0.type
      (callees_from w fs (i + 1) r.1))

-- The table of an accepted text, in a slice of m cells. --------------------------------------------------------------

module _ (text : List ℕ) (a : Accepts text) (m : ℕ) where
  pub count-is : get_or (table_in m text) 0 0 ≡ length a.functions
  count-is = ap (λ (u : Slices). get_or (pad_to m u.functions) 0 0) (unit-is text a)

  in_range : (i : ℕ) → i < length a.functions → RowInRange text (table_in m text) i
  in_range i h = (header_in_range text m).each i (rw count-is h)

  abbrev zeros : List ℕ
  zeros =
      let rows = rows_cells (tokens_read text) (names_read text) none a.functions in
      replicate (m - length (length a.functions ∷ rows)) 0

  stand : drop 1 (table_in m text) ≡ rows_cells (tokens_read text) (names_read text) none a.functions ++ zeros
  stand = ap (λ (u : Slices). drop 1 (pad_to m u.functions)) (unit-is text a)

  row_of : (i first base : ℕ) (f : Function) (r : List ℕ) → NamedAt (tokens_read text) f
      → RowInRange text (table_in m text) i
      → drop (row_at i) (table_in m text) ≡ row_cells (tokens_read text) (names_read text) f first base ++ r
      → RowOf text (tokens_read text) (names_read text) (table_in m text) i f
  row_of i first base f r g q h =
      let ts = tokens_read text in
      let names = names_read text in
      let table = table_in m text in
      let cell : (k j : ℕ) → k ≡ row_at i + j → get_or table k 0 ≡ get_or (row_cells ts names f first base ++ r) j 0 =
      λ k j e. ap (λ (x : ℕ). get_or table x 0) e ∙ cell_there (row_at i) j table (row_cells ts names f first base ++ r)
      h in
      let few : length f.head.formals ≤ 16 = rw (row_count ts names f first base table i r h) at q.formals in
      let types = row-types ts names f first base table i r h few in
      let ret = row-ret ts names f first base table i r h in
      let place : get_or table (place_at i) 0 ≡ (token_at ts f.token).place = cell (place_at i) 3 (omega arith) in
      let len : get_or table (length_at i) 0 ≡ get_or names ((token_at ts f.token).name.0 * 2 + 1) 0 =
      cell (length_at i) 4 (omega arith) ∙ ap (λ (x : Identifier). get_or names (x.0 * 2 + 1) 0) (sym g.1) in
      record {
        token = row-token ts names f first base table i r h;
        number = row_name_lem ts names f first base table i r h;
        close = cell (close_at i) 2 (omega arith);
        place = place;
        line = cell (line_at i) 5 (omega arith);
        type = row_type ts names f first base table i r h;
        signed = rw (types, ret, row_count ts names f first base table i r h);
        called = rw (types, ret);
        name = row_name-part text table i q
            ∙ rw (place, len)
            (spelled_in text a.tokens a.names (sound text a) (check_of text).tokens names (tokens_are text a)
            (names_are text a) f.token g.0)
            ∙ ap (λ (x : Identifier). name_of text names x.0) g.1;
      }

  rows_of : {fs : List Function} (n : Counts) → All (NamedAt (tokens_read text)) fs
      → ((k : ℕ) → k < length fs → RowInRange text (table_in m text) (n.functions + k))
      → drop (row_at n.functions) (table_in m text) ≡ rows_cells (tokens_read text) (names_read text) n fs ++ zeros
      → RowsOf text (tokens_read text) (names_read text) (table_in m text) n.functions fs
  rows_of n All.none q h = tt
  rows_of n (All.more {x = f} {xs = fs} g r) q h =
      let ts = tokens_read text in
      let names = names_read text in
      let table = table_in m text in
      let s = row_stands ts names table zeros n f fs h in
      let z : n.functions + 0 ≡ n.functions = omega arith in
      let here = rw z at (q 0 (omega arith)) in
      let few : length f.head.formals ≤ 16 =
      rw (row_count ts names f n.items n.blocks table n.functions s.0 s.1) at here.formals in (
        row_of n.functions n.items n.blocks f s.0 g here s.1,
        rows_of (counts_with n f) r (λ k l.
            let e : n.functions + suc k ≡ n.functions + 1 + k = omega arith in
            rw e at (q (suc k) (omega arith))) (rows_behind ts names table zeros n f fs few h),
      )

  -- THE LAW: its rows are its functions'
  pub all-rows : RowsOf text (tokens_read text) (names_read text) (table_in m text) 0 a.functions
  all-rows = rows_of none (names_there text a) (λ k h. rw zero-add (in_range k h)) stand

  -- the row of function k
  pub its_row : {k : ℕ} (s : Split a.functions k)
      → RowOf text (tokens_read text) (names_read text) (table_in m text) k s.function
  its_row {k} s =
      let rows = subst (λ (fs : List Function). RowsOf text (tokens_read text) (names_read text) (table_in m text) 0 fs)
      s.all all-rows in
      let z : 0 + length s.before ≡ k = omega (arith, s.counted) in
      rw z at (row-behind text (tokens_read text) (names_read text) (table_in m text) s.before s.function
      s.behind 0 rows)

  -- A CALLEE BY ITS SPELLING among the rows is the one among the functions
  module _ (new new_names : List ℕ) where
    pub globals_listed : (x : ℕ) → globals_spelled text (table_in m text) new new_names x
        ≡ global_spelt (spelled_alike text (names_read text) new new_names x) a.functions
    globals_listed x =
        rw count-is
        (globals_from text (tokens_read text) (names_read text) (table_in m text) (name_of new new_names x) a.functions 0
        all-rows)

    pub callees_listed : (x : ℕ) → callees_spelled text (table_in m text) new new_names x
        ≡ callee_spelt (spelled_alike text (names_read text) new new_names x) a.functions
    callees_listed x =
        rw count-is
        (callees_from text (tokens_read text) (names_read text) (table_in m text) (name_of new new_names x) a.functions 0
        all-rows)

  -- no 41: the function at this row is kept
  pub kept-listed : (new new_names : List ℕ) {k : ℕ} (s : Split a.functions k) (alone : List Tok)
      → keeps (same_bytes (row_name text (table_in m text) k)) (signed_at (table_in m text) k) new new_names alone ≡ true
      → Keeps (spelled_alike text (names_read text) new new_names) s.function alone
  kept-listed new new_names {k} s alone e =
      keeps-by (spelled_alike text (names_read text) new new_names) s.function
      (same_bytes (row_name text (table_in m text) k)) (signed_at (table_in m text) k) new new_names alone e
      (λ x. ap (λ (w : List ℕ). same_bytes w (name_of new new_names x)) (its_row s).name) (its_row s).signed

  -- the table is one, for each of its functions
  pub is_table_lem : 2881 ≤ m → (k : ℕ) → k < length a.functions → is_table text (table_in m text) k ≡ true
  is_table_lem long k h =
      in_range_table text (table_in m text) k
      (record {
        short = (sound text a).short;
        sized = omega (arith, long, padded-long m (check_of text).unit.functions);
        there = rw count-is h;
        in_range = header_in_range text m;
      })
