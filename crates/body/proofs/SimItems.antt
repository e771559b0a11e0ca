-- The simulation of demand 3 for a body that is closed: related items have related labels, get a `ret` alike, and make
-- related shapes.
use Prim.Native.Nat.{ℕ, suc, ◌+◌, ◌<◌}
use mathlib.Core.Path.{◌≡◌, refl, ap}
use mathlib.Core.List.{List, ◌∷◌}
use mathlib.Core.Bool.{Bool, true, false}
use native.Mathlib.Omega.{arith}
use lib.ListN.{length}
use Rattle.utils.specs.Bytes.{pick}
use Rattle.body.specs.Body.{Item, operation_token, after_brace, after_label, after_operation, behind, ret}
use Rattle.body.specs.Body.{lacks_ret, closed_from, closed_items}
use Rattle.body.specs.Shapes.{shape_of, shapes_of}
use Rattle.parser.specs.Moved.{Move, SimO, Each}
use Rattle.body.specs.Moved.{SimItem, SimShape}
use Rattle.body.proofs.Cells.{lacks_operation}
use Rattle.body.proofs.SimBody.{token-moved, token-below, terminator_kept, number_of}

-- related lists are equally long
pub count_s : {A : Type 0} {R : A → A → Type 0} {xs xs' : List A} → Each R xs xs' → length xs ≡ length xs'
count_s Each.none = refl
count_s (Each.more q r) = ap suc (count_s r)

-- Closed items. -------------------------------------------------------------------------------------------------------

added_s : {m : Move} {n : ℕ} (lacks : Bool) (last last' : ℕ) {xs xs' : List Item}
    → (lacks ≡ true → (last ≡ m.by + last') × (last' < n))
    → Each (SimItem m n) xs xs' → Each (SimItem m n) (pick lacks (ret last ∷ xs) xs) (pick lacks (ret last' ∷ xs') xs')
unfolding pick
added_s true last last' e r = rw (e refl).0 (Each.more (SimItem.plain (SimO.ret last' (e refl).1)) r)
added_s false last last' e r = r

-- The last operation's token is moved, and one of the first n, where there was an operation.
pub closed_s : {m : Move} {n : ℕ} (void : Bool) (before last last' : ℕ) {is is' : List Item}
    → (before ≡ after_operation → (last ≡ m.by + last') × (last' < n)) → Each (SimItem m n) is is'
    → Each (SimItem m n) (closed_from void before last is) (closed_from void before last' is')
unfolding closed_from behind
closed_s void before last last' e Each.none =
    added_s (lacks_ret void before) last last' (λ h. e (lacks_operation void before h)) Each.none
closed_s void before last last' e (Each.more (SimItem.label w q h) r) =
    added_s (lacks_ret void before) last last' (λ h. e (lacks_operation void before h))
    (Each.more (SimItem.label w q h) (closed_s void after_label last last' (λ h. absurd (omega (arith, h))) r))
closed_s {m} {n} void before last last' e (Each.more {xs = is} {xs' = is'} (SimItem.plain {o} {o'} q) r) =
    let more : Each (SimItem m n) (closed_from void (behind (Item.plain o)) (operation_token o) is)
    (closed_from void (behind (Item.plain o')) (operation_token o') is') =
    rw (terminator_kept (SimItem.plain q))
    (closed_s void (behind (Item.plain o')) (operation_token o) (operation_token o') (λ _.
    (token-moved (SimItem.plain q), token-below (SimItem.plain q))) r) in
    Each.more (SimItem.plain q) more
closed_s void before last last' e (Each.more (SimItem.call w g xs h) r) =
    Each.more (SimItem.call w g xs h) (closed_s void after_operation _ w (λ _. (refl, h)) r)
closed_s void before last last' e (Each.more (SimItem.call_into w v g xs h) r) =
    Each.more (SimItem.call_into w v g xs h) (closed_s void after_operation _ w (λ _. (refl, h)) r)

-- the items of a whole body
pub closed_items_s : {m : Move} {n : ℕ} (void : Bool) {is is' : List Item} → Each (SimItem m n) is is'
    → Each (SimItem m n) (closed_items void is) (closed_items void is')
closed_items_s void r = closed_s void after_brace 0 0 (λ h. absurd (omega (arith, h))) r

-- Parts. --------------------------------------------------------------------------------------------------------------

pub shape_s : {m : Move} {n : ℕ} {i i' : Item} → SimItem m n i i' → SimShape m n (shape_of i) (shape_of i')
shape_s (SimItem.label w q h) = SimShape.name (number_of q)
shape_s (SimItem.plain (SimO.binary w v x y h)) = SimShape.operation w Each.none h
shape_s (SimItem.plain (SimO.unary w v x h)) = SimShape.operation w Each.none h
shape_s (SimItem.plain (SimO.const w v h)) = SimShape.operation w Each.none h
shape_s (SimItem.plain (SimO.jump w x h)) = SimShape.operation w (Each.more (number_of x) Each.none) h
shape_s (SimItem.plain (SimO.branch w x y z h)) =
    SimShape.operation w (Each.more (number_of y) (Each.more (number_of z) Each.none)) h
shape_s (SimItem.plain (SimO.ret w h)) = SimShape.operation w Each.none h
shape_s (SimItem.plain (SimO.ret_value w x h)) = SimShape.operation w Each.none h
shape_s (SimItem.plain (SimO.print w x h)) = SimShape.operation w Each.none h
shape_s (SimItem.plain (SimO.nop w h)) = SimShape.operation w Each.none h
shape_s (SimItem.call w g xs h) = SimShape.operation w Each.none h
shape_s (SimItem.call_into w v g xs h) = SimShape.operation w Each.none h

pub shapes_s : {m : Move} {n : ℕ} {is is' : List Item} → Each (SimItem m n) is is'
    → Each (SimShape m n) (shapes_of is) (shapes_of is')
unfolding shapes_of
shapes_s Each.none = Each.none
shapes_s (Each.more q r) = Each.more (shape_s q) (shapes_s r)
