-- A record's operation by its kind, and a block's last item.
use Prim.Native.Nat.{ℕ, zero, suc, ◌+◌, ◌-◌, ◌*◌, ◌≤◌}
use mathlib.Core.Path.{◌≡◌, refl, sym, ap, ◌∙◌}
use mathlib.Core.List.{List, [], ◌∷◌}
use mathlib.Core.Bool.{Bool, true, false}
use native.Mathlib.Omega.{arith}
use borrow.Author.Tests.{ne_eqb, eqb-true, eqb-false}
use lib.Dec.{eqb}
use lib.ListN.{get_or}
use Rattle.utils.specs.Bytes.{pick}
use Rattle.lexer.specs.Decoded.{Tok}
use Rattle.pieces.specs.declared.Identifier.{Identifier}
use Rattle.parser.specs.Step.{refusal}
use Rattle.parser.specs.Runs.{type_cell}
use Rattle.body.specs.Body.{plain, label, call, call_into}
use Rattle.parser.specs.declared.Variable.{Variable}
use Rattle.parser.specs.declared.Operation.TheVariants as O
use Rattle.body.specs.Records.{named, last_of, record_at}
use Rattle.body.specs.declared.ItemRecord.{ItemRecord}
use Rattle.body.specs.declared.Last.{Last}
use Rattle.body.specs.declared.Last.TheVariants as L
use Rattle.sema.specs.Symbols.{on, stop}
use Rattle.sema.specs.Typing.{Global, type_call_d, type_call_into_d, type_plain_d, type_item_d}
use Rattle.sema.specs.Items.{typed, ty_of, variables_at, operation_of, item_by, item_of, item_at}
use Rattle.sema.specs.Blocks.{items_at, type_end_d}

-- a type's cell is the cell that it was read from
pub cell_of : (n : ℕ) → type_cell (ty_of n) ≡ n
unfolding ty_of pick
cell_of zero = refl
cell_of (suc zero) = refl
cell_of (suc (suc zero)) = refl
cell_of (suc (suc (suc zero))) = refl
cell_of (suc (suc (suc (suc n)))) =
    let k = suc (suc (suc (suc n))) in
    rw (
      ne_eqb k 0 (λ e. omega (arith, e)),
      ne_eqb k 1 (λ e. omega (arith, e)),
      ne_eqb k 2 (λ e. omega (arith, e)),
      ne_eqb k 3 (λ e. omega (arith, e)),
    )
    (let m : k - 4 + 4 ≡ k = omega arith in m)

module _ (ts : List Tok) (ret : ℕ) (t : List ℕ) (r : ItemRecord) (right : Identifier) where
  pub plain_other : (r.kind ≡ 2 → ⊥) → (r.kind ≡ 3 → ⊥) → (r.kind ≡ 4 → ⊥) → (r.kind ≡ 11 → ⊥) → (r.kind ≡ 12 → ⊥)
      → on t ≡ type_plain_d ts ret t (operation_of r right)
  unfolding type_plain_d operation_of pick
  plain_other n2 n3 n4 n11 n12 =
      rw (ne_eqb _ _ n2, ne_eqb _ _ n3, ne_eqb _ _ n4, ne_eqb _ _ n11, ne_eqb _ _ n12)
      (by (eqb r.kind 7) (eqb r.kind 9))
    where
      by : (print jump : Bool) → on t ≡ type_plain_d ts ret t
          (pick print (O.Print r.token r.left) (pick jump (O.Jump r.token right) (O.Nop r.token)))
      by true jump = refl
      by false true = refl
      by false false = refl

module _ (ts : List Tok) (globals : ℕ → Global) (ret : ℕ) (t : List ℕ) (r : ItemRecord) (args : List ℕ) where
  -- a label is typed as an operation that looks nothing up
  pub item-plain : {x : Identifier} {ty : ℕ} → r.last ≡ L.Name x ty
      → type_plain_d ts ret t (operation_of r x) ≡ type_item_d ts globals ret t (item_of r args)
  unfolding type_item_d item_of item_by pick
  item-plain {x} e =
      by (eqb r.kind 1) refl ∙ ap (λ (z : Last). type_item_d ts globals ret t (item_by r args z)) (sym e)
    where
      by : (b : Bool) → eqb r.kind 1 ≡ b
          → type_plain_d ts ret t (operation_of r x)
          ≡ type_item_d ts globals ret t (pick b (label r.token x) (plain (operation_of r x)))
      by false h = refl
      by true h =
          let k : r.kind ≡ 1 = eqb-true r.kind 1 h in
          sym (plain_other ts ret t r x (λ z. omega (arith, z)) (λ z. omega (arith, z)) (λ z. omega (arith, z))
          (λ z. omega (arith, z)) (λ z. omega (arith, z)))

  pub item-branch : {l m : Identifier} → r.last ≡ L.Labels l m → on t ≡ type_item_d ts globals ret t (item_of r args)
  unfolding type_item_d item_of item_by type_plain_d
  item-branch e = rw e

  module _ {first count : ℕ} (e : r.last ≡ L.Run first count) where
    pub item-call_into : r.kind ≡ 6
        → type_call_into_d t (globals r.left.0) r.token r.dest r.dty r.left (variables_at args first count)
        ≡ type_item_d ts globals ret t (item_of r args)
    unfolding type_item_d item_of item_by pick
    item-call_into h = rw (e, h, cell_of r.dty)

    pub item-call : (r.kind ≡ 6 → ⊥)
        → type_call_d t (globals r.left.0) r.token r.left (variables_at args first count)
        ≡ type_item_d ts globals ret t (item_of r args)
    unfolding type_item_d item_of item_by pick
    item-call h = rw (e, ne_eqb _ _ h)

-- A block's last item. ------------------------------------------------------------------------------------------------

-- a record from cells: its kind says what its last two cells hold
abbrev FromCells : ItemRecord → Type 0
FromCells r = (first : ℕ) × (second : ℕ) × (r.last ≡ last_of r.kind first second)

pub from-cells : (r : ItemRecord) (cells : List ℕ) (i : ℕ) → r ≡ record_at cells i → FromCells r
from-cells r cells i e = rw e (get_or cells (i * 8 + 6) 0, get_or cells (i * 8 + 7) 0, refl)

module _ (t : List ℕ) (r : ItemRecord) (args : List ℕ) (from : FromCells r) where
  pub last-other : (r.kind ≡ 9 → ⊥) → (r.kind ≡ 10 → ⊥) → (r.kind ≡ 11 → ⊥) → (r.kind ≡ 12 → ⊥)
      → stop t (refusal 21 r.token 0) ≡ type_end_d t (item_of r args ∷ [])
  unfolding type_end_d item_of item_by operation_of last_of pick
  last-other n9 n10 n11 n12 =
      let here : last_of r.kind from.0 from.1
      ≡ pick (eqb r.kind 5) (L.Run from.0 from.1)
      (pick (eqb r.kind 6) (L.Run from.0 from.1) (L.Name (named from.0) from.1)) =
      rw (ne_eqb _ _ n10) in
      by (eqb r.kind 5) (eqb r.kind 6)
      ∙ ap (λ (z : Last). type_end_d t (item_by r args z ∷ [])) (sym (from.2 ∙ here))
    where
      called : (into : Bool) (xs : List Variable) → stop t (refusal 21 r.token 0) ≡ type_end_d t
          (pick into (call_into r.token (typed r.dest r.dty) r.left xs) (call r.token r.left xs) ∷ [])
      called true xs = refl
      called false xs = refl

      other : (x : Identifier) (b1 b2 b3 b4 b7 : Bool) → stop t (refusal 21 r.token 0) ≡ type_end_d t
          (pick b1 (label r.token x)
          (plain
          (pick b2 (O.BinaryOp r.token (typed r.dest r.dty) r.left x)
          (pick b3 (O.UnaryOp r.token (typed r.dest r.dty) r.left)
          (pick b4 (O.Const r.token (typed r.dest r.dty))
          (pick b7 (O.Print r.token r.left)
          (O.Nop r.token)))))) ∷ [])
      other x true b2 b3 b4 b7 = refl
      other x false true b3 b4 b7 = refl
      other x false false true b4 b7 = refl
      other x false false false true b7 = refl
      other x false false false false true = refl
      other x false false false false false = refl

      by : (b5 b6 : Bool) → stop t (refusal 21 r.token 0) ≡ type_end_d t
          (item_by r args
          (pick b5 (L.Run from.0 from.1)
          (pick b6 (L.Run from.0 from.1) (L.Name (named from.0) from.1)))
          ∷ [])
      by true b6 = called (eqb r.kind 6) (variables_at args from.0 from.1)
      by false true = called (eqb r.kind 6) (variables_at args from.0 from.1)
      by false false =
          rw (ne_eqb _ _ n9, ne_eqb _ _ n11, ne_eqb _ _ n12)
          (other (named from.0) (eqb r.kind 1) (eqb r.kind 2) (eqb r.kind 3) (eqb r.kind 4)
          (eqb r.kind 7))

  pub last-ends : 9 ≤ r.kind → r.kind ≤ 12 → on t ≡ type_end_d t (item_of r args ∷ [])
  unfolding type_end_d item_of item_by operation_of last_of pick
  last-ends h g =
      by (eqb r.kind 9) refl (eqb r.kind 10) refl (eqb r.kind 11) refl
      ∙ ap (λ (z : Last). type_end_d t (item_by r args z ∷ [])) (sym from.2)
    where
      by : (b9 : Bool) → eqb r.kind 9 ≡ b9 → (b10 : Bool) → eqb r.kind 10 ≡ b10 → (b11 : Bool) → eqb r.kind
          11 ≡ b11
          → on t ≡ type_end_d t (item_by r args (last_of r.kind from.0 from.1) ∷ [])
      by true e b10 e10 b11 e11 = rw (eqb-true r.kind 9 e)
      by false e9 true e b11 e11 = rw (eqb-true r.kind 10 e)
      by false e9 false e10 true e = rw (eqb-true r.kind 11 e)
      by false e9 false e10 false e11 =
          let k : r.kind ≡ 12 = omega (
            arith,
            eqb-false r.kind 9 e9,
            eqb-false r.kind 10 e10,
            eqb-false
                r.kind 11 e11,
          ) in
          rw k

pub end_none : (t items args : List ℕ) (first n : ℕ) → n ≡ 0 → on t ≡ type_end_d t (items_at items args first n)
unfolding type_end_d items_at
end_none t items args first n h = rw h

pub end-last : (t items args : List ℕ) (n first : ℕ) → (n ≡ 0 → ⊥)
    → type_end_d t (item_at items args (first + n - 1) ∷ []) ≡ type_end_d t (items_at items args first n)
unfolding type_end_d items_at
end-last t items args zero first h = absurd (h refl)
end-last t items args (suc zero) first h = let m : first + 1 - 1 ≡ first = omega arith in rw m
end-last t items args (suc (suc n)) first h =
    let m : first + suc (suc n) - 1 ≡ first + 1 + suc n - 1 = omega arith in
    rw m (end-last t items args (suc n) (first + 1) (λ e. omega (arith, e)))
