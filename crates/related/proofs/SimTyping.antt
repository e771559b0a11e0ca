-- The simulation of demand 3 for the typing of one operation: one lemma for each definition of
-- crates/sema/specs/Symbols.antt and Typing.antt. Related tables and related items give related answers.
use Prim.Native.Nat.{ℕ, ◌+◌, ◌<◌}
use mathlib.Core.Path.{◌≡◌, refl, ap}
use mathlib.Core.List.{List, [], ◌∷◌}
use mathlib.Core.Bool.{Bool, true, false}
use native.Mathlib.Omega.{arith}
use native.Mathlib.Decide.{ℕ_discrete}
use lib.ListN.{get_or, set, length-set}
use lib.Seq.{get_or-set_same, get_or-set_other}
use Rattle.utils.specs.Bytes.{pick}
use Rattle.lexer.specs.Decoded.{Tok, token_at}
use Rattle.lexer.specs.declared.TokenAt.{TokenAt}
use Rattle.pieces.specs.declared.Identifier.{Identifier}
use Rattle.parser.specs.Step.{refusal}
use Rattle.body.specs.Body.{Item}
use Rattle.parser.specs.Moved.{Move, Sim, SimName, SimE, SimV, SimO, Each}
use Rattle.body.specs.Moved.{SimItem}
use Rattle.parser.specs.declared.Refusal.{Refusal}
use Rattle.parser.specs.declared.Variable.{Variable}
use Rattle.parser.specs.declared.Operation.{Operation}
use Rattle.body.proofs.SimItems.{count_s}
use Rattle.sema.specs.Symbols.{Typed, on, stop, then_end, then_typed, enter_d, then_look, then_same}
use Rattle.sema.specs.Typing.{then_three, operands_d, type_binary_d, operand_d, type_unary_d, type_const_d, type_ret_value_d}
use Rattle.sema.specs.Typing.{type_ret_d, Global}
use Rattle.sema.specs.Typing.{present_d, types_of, same_all, type_arguments_d, then_global, type_call_d, type_call_into_d}
use Rattle.sema.specs.Typing.{type_plain_d, type_item_d}
use Rattle.related.specs.Tables.{Tables, SimChecked, SimTyped, SameGlobals}

-- Steps. -------------------------------------------------------------------------------------------------------------

pub on_s : {m : Move} {n : ℕ} {t t' : List ℕ} → Tables m t t' → SimTyped m n (on t) (on t')
on_s q = SimTyped.both q SimChecked.fine

pub stop_s : {m : Move} {n : ℕ} {t t' : List ℕ} {e e' : Refusal} → Tables m t t' → SimE m n e e'
    → SimTyped m n (stop t e) (stop t' e')
stop_s q r = SimTyped.both q (SimChecked.refused r)

pub pick_s : (m : Move) {n : ℕ} (q : Bool) (x y x' y' : Typed) → SimTyped m n x x' → SimTyped m n y y'
    → SimTyped m n (pick q x y) (pick q x' y')
unfolding pick
pick_s m true x y x' y' f g = f
pick_s m false x y x' y' f g = g

pub then_typed_s : (m : Move) {n : ℕ} (r r' : Typed) (k k' : List ℕ → Typed) → SimTyped m n r r'
    → ((t t' : List ℕ) → Tables m t t' → SimTyped m n (k t) (k' t')) → SimTyped m n (then_typed r k) (then_typed r' k')
unfolding then_typed then_end
then_typed_s m r r' k k' (SimTyped.both {t} {t'} q SimChecked.fine) g = g t t' q
then_typed_s m r r' k k' (SimTyped.both q (SimChecked.refused p)) g = SimTyped.both q (SimChecked.refused p)

-- A name that is entered in both keeps the tables related.
pub set_s : {m : Move} {t t' : List ℕ} (x v : ℕ) → x < m.names → Tables m t t'
    → Tables m (set t (m.name x) v) (set t' x v)
set_s {m} {t} {t'} x v h q =
    record {
      same = λ y g. go y g (ℕ_discrete y x);
      room = λ y g. rw length-set (q.room y g);
      room' = rw length-set q.room';
    }
  where
    go : (y : ℕ) → y < m.names → Dec (y ≡ x) → get_or (set t (m.name x) v) (m.name y) 0 ≡ get_or (set t' x v) y 0
    go y g (yes e) =
        rw (e, get_or-set_same t (m.name x) v 0 (q.room x h), get_or-set_same t' x v 0 (omega (arith, q.room')))
    go y g (no e) =
        rw (get_or-set_other t (m.name x) (m.name y) v 0 (λ z. e (m.apart y x g h z)), get_or-set_other t' x y v 0 e)
        (q.same y g)

module _ {m : Move} {n : ℕ} (token : ℕ) (l : token < n) where
  module _ {t t' : List ℕ} (q : Tables m t t') where
    -- 15, with the renamed name
    pub enter_s : (type : ℕ) {x x' : Identifier} → SimName m x x'
        → SimTyped m n (enter_d t (m.by + token) x type) (enter_d t' token x' type)
    unfolding enter_d
    enter_s type (SimName.renamed x h) =
        rw (q.same x h)
        (pick_s m _ _ _ _ _ (on_s (set_s x type h q))
        (pick_s m _ _ _ _ _ (on_s q) (stop_s q (SimE.named 15 token _ type (SimName.renamed x h) l))))

    -- 16, with the renamed name
    pub then_look_s : {x x' : Identifier} (k k' : ℕ → Typed) → SimName m x x'
        → ((type : ℕ) → SimTyped m n (k type) (k' type))
        → SimTyped m n (then_look t (m.by + token) x k) (then_look t' token x' k')
    unfolding then_look
    then_look_s k k' (SimName.renamed x h) g =
        rw (q.same x h)
        (pick_s m _ _ _ _ _ (stop_s q (SimE.named 16 token 0 0 (SimName.renamed x h) l)) (g _))

    -- 17
    pub then_same_s : (found wanted : ℕ) {r r' : Typed} → SimTyped m n r r'
        → SimTyped m n (then_same t (m.by + token) found wanted r) (then_same t' token found wanted r')
    unfolding then_same
    then_same_s found wanted f =
        pick_s m _ _ _ _ _ f (stop_s q (SimE.told 17 token wanted found l))

    -- a refusal that tells nothing but its token
    pub plain_stop_s : (number : ℕ)
        → SimTyped m n (stop t (refusal number (m.by + token) 0)) (stop t' (refusal number token 0))
    plain_stop_s number = stop_s q (SimE.moved number token 0 l)

    pub then_three_s : (result left right a b : ℕ)
        → SimTyped m n (then_three t (m.by + token) result left right a b) (then_three t' token result left right a b)
    unfolding then_three
    then_three_s result left right a b =
        then_same_s result a (then_same_s left b (then_same_s right b (on_s q)))

    pub operands_s : (kind result left right : ℕ)
        → SimTyped m n (operands_d t kind (m.by + token) result left right) (operands_d t' kind token result left right)
    unfolding operands_d
    operands_s kind result left right =
        pick_s m _ _ _ _ _ (then_three_s result left right _ _)
        (pick_s m _ _ _ _ _ (then_same_s right left (then_same_s result _ (on_s q)))
        (pick_s m _ _ _ _ _ (then_three_s result left right _ _) (then_three_s result left right _ _)))

    pub operand_s : (kind type operand : ℕ)
        → SimTyped m n (operand_d t kind (m.by + token) type operand) (operand_d t' kind token type operand)
    unfolding operand_d
    operand_s kind type operand =
        pick_s m _ _ _ _ _ (then_same_s operand type (on_s q))
        (then_same_s type _ (then_same_s operand _ (on_s q)))

  module _ {t t' : List ℕ} (q : Tables m t t') where
    pub binary_s : (kind type : ℕ) {r r' x x' y y' : Identifier} → SimName m r r' → SimName m x x' → SimName m y y'
        → SimTyped m n (type_binary_d t kind (m.by + token) r type x y) (type_binary_d t' kind token r' type x' y')
    unfolding type_binary_d
    binary_s kind type r x y =
        then_look_s q _ _ x (λ left.
        then_look_s q _ _ y (λ right.
        then_typed_s m _ _ _ _ (enter_s q type r) (λ u u' p. operands_s p kind type left right)))

    pub unary_s : (kind type : ℕ) {r r' x x' : Identifier} → SimName m r r' → SimName m x x'
        → SimTyped m n (type_unary_d t kind (m.by + token) r type x) (type_unary_d t' kind token r' type x')
    unfolding type_unary_d
    unary_s kind type r x =
        then_look_s q _ _ x (λ operand.
        then_typed_s m _ _ _ _ (enter_s q type r) (λ u u' p. operand_s p kind type operand))

    pub const_s : (kind type : ℕ) {r r' : Identifier} → SimName m r r'
        → SimTyped m n (type_const_d t kind (m.by + token) r type) (type_const_d t' kind token r' type)
    unfolding type_const_d
    const_s kind type r = then_same_s q _ type (enter_s q type r)

    pub ret_value_s : (ret : ℕ) {x x' : Identifier} → SimName m x x'
        → SimTyped m n (type_ret_value_d t ret (m.by + token) x) (type_ret_value_d t' ret token x')
    unfolding type_ret_value_d
    ret_value_s ret x =
        then_look_s q _ _ x (λ found.
        pick_s m _ _ _ _ _ (plain_stop_s q 18) (then_same_s q found ret (on_s q)))

    pub ret_s : (ret : ℕ) → SimTyped m n (type_ret_d t ret (m.by + token)) (type_ret_d t' ret token)
    unfolding type_ret_d
    ret_s ret = pick_s m _ _ _ _ _ (on_s q) (plain_stop_s q 19)

    -- Calls. ----------------------------------------------------------------------------------------------------------

    pub present_s : {xs xs' : List Variable} → Each (SimV m) xs xs'
        → SimTyped m n (present_d t (m.by + token) xs) (present_d t' token xs')
    unfolding present_d
    present_s Each.none = on_s q
    present_s (Each.more (SimV.of x type) r) = then_look_s q _ _ x (λ type. present_s r)

    pub types_of_s : {xs xs' : List Variable} → Each (SimV m) xs xs' → types_of t xs ≡ types_of t' xs'
    unfolding types_of
    types_of_s Each.none = refl
    types_of_s (Each.more (SimV.of (SimName.renamed x h) type) r) = rw (q.same x h, types_of_s r) refl

    pub same_all_s : (fs ws : List ℕ) → SimTyped m n (same_all t (m.by + token) fs ws) (same_all t' token fs ws)
    unfolding same_all
    same_all_s [] ws = on_s q
    same_all_s (f ∷ fs) [] = on_s q
    same_all_s (f ∷ fs) (w ∷ ws) = then_same_s q f w (same_all_s fs ws)

  module _ {t t' : List ℕ} (q : Tables m t t') where
    -- 20
    pub arguments_s : (formals : List ℕ) {xs xs' : List Variable} → Each (SimV m) xs xs'
        → SimTyped m n (type_arguments_d t (m.by + token) formals xs) (type_arguments_d t' token formals xs')
    unfolding type_arguments_d
    arguments_s formals {xs} {xs'} r =
        rw (count_s r)
        (pick_s m _ _ _ _ _
        (then_typed_s m _ _ _ _ (present_s q r) (λ u u' p.
        rw (types_of_s p r) (same_all_s p (types_of u' xs') formals)))
        (stop_s q (SimE.told 20 token _ _ l)))

    pub then_global_s : {x x' : Identifier} (g : Global) (k k' : ℕ → List ℕ → Typed) → SimName m x x'
        → ((ret : ℕ) (formals : List ℕ) → SimTyped m n (k ret formals) (k' ret formals))
        → SimTyped m n (then_global t (m.by + token) x g k) (then_global t' token x' g k')
    unfolding then_global
    then_global_s Global.absent k k' x f = stop_s q (SimE.named 16 token 0 0 x l)
    then_global_s (Global.global ret formals) k k' x f = f ret formals

  module _ {t t' : List ℕ} (q : Tables m t t') where
    pub call_s : (g : Global) {x x' : Identifier} {xs xs' : List Variable} → SimName m x x'
        → Each (SimV m) xs xs' → SimTyped m n (type_call_d t g (m.by + token) x xs) (type_call_d t' g token x' xs')
    unfolding type_call_d
    call_s g x r =
        then_global_s q g _ _ x (λ ret formals.
        pick_s m _ _ _ _ _ (arguments_s q formals r) (plain_stop_s q 19))

    pub call_into_s : (g : Global) (type : ℕ) {v v' x x' : Identifier} {xs xs' : List Variable} → SimName m v v'
        → SimName m x x' → Each (SimV m) xs xs'
        → SimTyped m n (type_call_into_d t g (m.by + token) v type x xs) (type_call_into_d t' g token v' type x' xs')
    unfolding type_call_into_d
    call_into_s g type v x r =
        then_global_s q g _ _ x (λ ret formals.
        pick_s m _ _ _ _ _ (plain_stop_s q 18)
        (then_same_s q type ret
        (then_typed_s m _ _ _ _ (enter_s q type v) (λ u u' p. arguments_s p formals r))))

-- Items. -------------------------------------------------------------------------------------------------------------

-- related tokens are of the same kind
pub kind-same : {m : Move} {n : ℕ} {ts ts' : List Tok} → Sim m n ts ts' → (i : ℕ) → i < n
    → (token_at ts (m.by + i)).kind ≡ (token_at ts' i).kind
kind-same s i h = ap (λ (t : TokenAt). t.kind) (s.same i h)

module _ {m : Move} {n : ℕ} {ts ts' : List Tok} (s : Sim m n ts ts') {t t' : List ℕ} (q : Tables m t t') where
  pub plain_s : (ret : ℕ) {o o' : Operation} → SimO m n o o' → SimTyped m n (type_plain_d ts ret t o)
      (type_plain_d ts' ret t' o')
  unfolding type_plain_d
  plain_s ret (SimO.binary w (SimV.of v type) x y h) = rw (kind-same s w h) (binary_s w h q _ _ v x y)
  plain_s ret (SimO.unary w (SimV.of v type) x h) = rw (kind-same s w h) (unary_s w h q _ _ v x)
  plain_s ret (SimO.const w (SimV.of v type) h) = rw (kind-same s w h) (const_s w h q _ _ v)
  plain_s ret (SimO.jump w x h) = on_s q
  plain_s ret (SimO.branch w x y z h) = on_s q
  plain_s ret (SimO.ret w h) = ret_s w h q ret
  plain_s ret (SimO.ret_value w x h) = ret_value_s w h q ret x
  plain_s ret (SimO.print w x h) = on_s q
  plain_s ret (SimO.nop w h) = on_s q

  -- an item by its form
  pub analyze_s : {globals globals' : ℕ → Global} (ret : ℕ) {i i' : Item} → SameGlobals m globals globals'
      → SimItem m n i i' → SimTyped m n (type_item_d ts globals ret t i) (type_item_d ts' globals' ret t' i')
  unfolding type_item_d
  analyze_s ret f (SimItem.label w x h) = on_s q
  analyze_s ret f (SimItem.plain o) = plain_s ret o
  analyze_s ret f (SimItem.call w (SimName.renamed x g) xs h) =
      rw (f.same x g) (call_s w h q _ (SimName.renamed x g) xs)
  analyze_s ret f (SimItem.call_into w (SimV.of v type) (SimName.renamed x g) xs h) =
      rw (f.same x g) (call_into_s w h q _ _ v (SimName.renamed x g) xs)
