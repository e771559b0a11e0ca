-- Where nothing is moved or renamed, a function that is read as another is read as itself, too: so what stands before
-- the replaced function may be counted from its own first.
use Prim.Native.Nat.{ℕ, ◌+◌}
use mathlib.Core.Path.{refl, sym, subst}
use mathlib.Core.List.{List}
use native.Mathlib.Nat.{zero-add}
use Rattle.lexer.specs.Decoded.{Tok}
use Rattle.pieces.specs.declared.Identifier.{Identifier}
use Rattle.body.specs.Body.{Item}
use Rattle.parser.specs.Moved.{Sim, SimName, SimV, SimO, Each}
use Rattle.body.specs.Moved.{SimItem}
use Rattle.parser.specs.declared.Variable.{Variable}
use Rattle.parser.specs.declared.Operation.{Operation}
use Rattle.parser.specs.declared.Operation.TheVariants as O
use Rattle.functions.specs.Functions.{Function}
use Rattle.functions.specs.Moved.{SimFunction}
use Rattle.joined.specs.Names.{still}
use Rattle.related.proofs.Still.{still_sim}

each_same : {A : Type 0} {R : A → A → Type 0} {xs xs' : List A} → ((x x' : A) → R x x' → R x' x') → Each R xs xs'
    → Each R xs' xs'
each_same f Each.none = Each.none
each_same f (Each.more q r) = Each.more (f _ _ q) (each_same f r)

-- a token that is moved by nothing
from_zero : {A : Type 0} (R : A → A → Type 0) (make : ℕ → A) (w : ℕ) → R (make (0 + w)) (make w)
    → R (make w) (make w)
from_zero R make w s = subst (λ (k : ℕ). R (make k) (make w)) (zero-add w) s

module _ {n : ℕ} where
  same_name : {x x' : Identifier} → SimName (still n) x x' → SimName (still n) x' x'
  same_name (SimName.renamed x h) = SimName.renamed x h

  same-variable : {v v' : Variable} → SimV (still n) v v' → SimV (still n) v' v'
  same-variable (SimV.of x t) = SimV.of (same_name x) t

  module _ {l : ℕ} where
    same_operation : {o o' : Operation} → SimO (still n) l o o' → SimO (still n) l o' o'
    same_operation (SimO.binary w {v' = v} {x' = x} {y' = y} a b c h) =
        from_zero (SimO (still n) l) (λ k. O.BinaryOp k v x y) w
        (SimO.binary w (same-variable a) (same_name b) (same_name c) h)
    same_operation (SimO.unary w {v' = v} {x' = x} a b h) =
        from_zero (SimO (still n) l) (λ k. O.UnaryOp k v x) w (SimO.unary w (same-variable a) (same_name b) h)
    same_operation (SimO.const w {v' = v} a h) =
        from_zero (SimO (still n) l) (λ k. O.Const k v) w (SimO.const w (same-variable a) h)
    same_operation (SimO.jump w {x' = x} a h) =
        from_zero (SimO (still n) l) (λ k. O.Jump k x) w (SimO.jump w (same_name a) h)
    same_operation (SimO.branch w {x' = x} {y' = y} {z' = z} a b c h) =
        from_zero (SimO (still n) l) (λ k. O.Branch k x y z) w
        (SimO.branch w (same_name a) (same_name b) (same_name c) h)
    same_operation (SimO.ret w h) = from_zero (SimO (still n) l) O.Ret w (SimO.ret w h)
    same_operation (SimO.ret_value w {x' = x} a h) =
        from_zero (SimO (still n) l) (λ k. O.RetValue k x) w (SimO.ret_value w (same_name a) h)
    same_operation (SimO.print w {x' = x} a h) =
        from_zero (SimO (still n) l) (λ k. O.Print k x) w (SimO.print w (same_name a) h)
    same_operation (SimO.nop w h) = from_zero (SimO (still n) l) O.Nop w (SimO.nop w h)

    same_item : {i i' : Item} → SimItem (still n) l i i' → SimItem (still n) l i' i'
    same_item (SimItem.label w {l' = x} a h) =
        from_zero (SimItem (still n) l) (λ k. Item.label k x) w (SimItem.label w (same_name a) h)
    same_item (SimItem.plain o) = SimItem.plain (same_operation o)
    same_item (SimItem.call w {g' = g} {xs' = xs} a b h) =
        from_zero (SimItem (still n) l) (λ k. Item.call k g xs) w
        (SimItem.call w (same_name a) (each_same (λ x x' q. same-variable q) b) h)
    same_item (SimItem.call_into w {v' = v} {g' = g} {xs' = xs} a b c h) =
        from_zero (SimItem (still n) l) (λ k. Item.call_into k v g xs) w
        (SimItem.call_into w (same-variable a) (same_name b) (each_same (λ x x' q. same-variable q) c) h)

    -- THE LAW
    pub as_itself : {f f' : Function} → SimFunction (still n) l f f' → SimFunction (still n) l f' f'
    as_itself {f' = f} s =
        record {
          token = sym (zero-add f.token);
          head =
              record {
                name = same_name s.head.name;
                formals = each_same (λ x x' q. same-variable q) s.head.formals;
                ret = refl;
                type = refl;
              };
          items = each_same (λ x x' q. same_item q) s.items;
          next = sym (zero-add f.next);
          within = s.within;
          begins = s.begins;
          closes = s.closes;
        }

  -- .. of its own tokens
  pub itself : {l : ℕ} {ts ts' : List Tok} → Sim (still n) l ts ts' → Sim (still n) l ts' ts'
  itself s = still_sim (λ i h. refl) s.fit s.near s.inner
