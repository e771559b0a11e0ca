-- What no text shows of the messages, computed: the words for types that no refusal names, and that every word and sign
-- is shown as the lexer reads it. (Messages of texts are replayed, byte for byte, by crates/replay_check.)
use Rattle.std.specs.Prelude.{ℕ, ◌≡◌, refl, List, [], ◌∷◌, Bool, true, false, Option, Some, None}
use Rattle.utils.specs.Bytes.{pick, bytes, same_bytes}
use Rattle.pieces.specs.Tokens as lexed
use Rattle.pieces.specs.Tokens.{Word, kind_of, symbol}
use Rattle.messages.specs.Messages.{shown, type_word}
use Rattle.messages.specs.Opened.{opened}
use Rattle.pieces.specs.declared.TokenValue.{TokenValue}

-- 17 is never given with a placeholder or `void`, and with a function's type neither
placeholder-word : same_bytes (type_word 0) (bytes "placeholder") ≡ true
unfolding opened
placeholder-word = refl

void-word : same_bytes (type_word 3) (bytes "void") ≡ true
unfolding opened
void-word = refl

words_right : List Word → Bool
words_right [] = true
words_right (w ∷ ws) =
    let more = words_right ws in
    pick (same_bytes (shown (kind_of w.value) (record { 0 = 0 }) 0) w.spelling) more false

sign_right : ℕ → Option TokenValue → Bool
sign_right b None = false
sign_right b (Some v) = same_bytes (shown (kind_of v) (record { 0 = 0 }) 0) (b ∷ [])

signs_right : List ℕ → Bool
signs_right [] = true
signs_right (b ∷ bs) =
    let more = signs_right bs in
    pick (sign_right b (symbol b)) more false

words_right_lem : words_right lexed.words ≡ true
unfolding opened words_right
words_right_lem = refl

signs_right_lem : signs_right (bytes "=(){}:;,") ≡ true
unfolding opened sign_right signs_right
signs_right_lem = refl
