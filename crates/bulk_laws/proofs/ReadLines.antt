-- What the lines of the large script are as events.
use Rattle.std.proofs.Common.{◌≡◌, ◌<◌, ◌≤◌, ◌+◌, ◌*◌, ◌^◌, ℕ, true, false, cond, List, [], ◌∷◌, ◌++◌, length, Some, None, codes, refl, sym, ap, ap₂, subst, ◌∙◌, append_assoc, length-append, le-leb, arith, IsUtf8}
use Rattle.std.proofs.lemmas.Fmt.{IsAscii-decimal, decimal_is_IsNumeral, length-decimal-le}
use Rattle.std.proofs.lemmas.Str.{IsUtf8-append, IsUtf8-from_ascii, is_utf8-from_IsUtf8}
use Rattle.std.proofs.lemmas.Str.Parse.{digit_from_value}
use Rattle.std.specs.Fmt.{decimal}
use Rattle.std.specs.Prelude.{pos, option_and_then}
use Rattle.std.specs.Str.{is_utf8}
use Rattle.std.specs.Str.Parse.{AllDigits}
use Rattle.plan_ir.specs.gql_plain.Limits.{max_line}
use Rattle.json.proofs.Printed.Decimals.{IsNumber-decimal}
use Rattle.json.proofs.Printed.Strings.{escape_byte_plain}
use Rattle.json.proofs.Printed.Tokens.{tokens-print}
use Rattle.json.proofs.Printed.Utf8.{are_ascii, IsUtf8-are_ascii}
use Rattle.json.specs.Json as json
use Rattle.json.specs.Lex.{tokens}
use Rattle.json.specs.Print.{ArePrintable, escape, escape_byte, print, print_from}
use Rattle.json.specs.Token as tok
use Rattle.json.specs.Token.{Token}
use Rattle.json.proofs.OnLiterals.{json_on_literals}
use Rattle.relay_machine.specs.Bulk.{age_line, collect_line, friend_line, layer_line, retain_line, watch_line}
use Rattle.serde_json.proofs.Numbers.{number_of-decimal}
use Rattle.serde_json.proofs.OnLiterals.{serde_json_on_literals}
use Rattle.serde_json.specs.Data as J
use Rattle.serde_json.specs.Read.{max_depth, of_json, read}
use Rattle.plan_ir.specs.store_model.Events as e
use Rattle.plan_ir.specs.store_model.Events.{Event, Line, line_of, of_shape, of_text, of_value, shape_of}
use Rattle.plan_ir.specs.store_model.declared.command.Command.TheVariants as C

-- ---- digits in texts

digits_escape : (ds : List ℕ) → AllDigits 10 ds → escape ds ≡ ds
digits_escape [] h = refl
digits_escape (d ∷ ds) h =
    let r = digit_from_value d h.0 in
    ap₂ (λ (a b : List ℕ). a ++ b) (escape_byte_plain d (λ e. omega (arith, r.1)) (λ e. omega (arith, r.1)) (omega (arith, r.0))) (digits_escape ds h.1)

decimal_escape : (n : ℕ) → n < 2 ^ 64 → escape (decimal n) ≡ decimal n
decimal_escape n h = digits_escape (decimal n) (decimal_is_IsNumeral n h).0.1

decimal_utf8 : (n : ℕ) → n < 2 ^ 64 → IsUtf8 (decimal n)
decimal_utf8 n h = IsUtf8-from_ascii (decimal n) (IsAscii-decimal n h)

-- ---- the event of a line

read_by : (text : List ℕ) (ts : List Token) (j : json.Json) (d : J.Data) → tokens text ≡ ts → json.value max_depth ts ≡ Some (j, []) → of_json j ≡ Some d → read text ≡ Some d
read_by text ts j d a b c =
    ap (λ us. option_and_then of_json (option_and_then (λ p. json.if_last p.0 p.1) (json.value max_depth us))) a
    ∙ ap (λ o. option_and_then of_json (option_and_then (λ p. json.if_last p.0 p.1) o)) b ∙ c

line_by : (bytes : List ℕ) (d : J.Data) (l : Line) → length bytes ≤ max_line → IsUtf8 bytes → read bytes ≡ Some d → of_shape (shape_of d) ≡ l → line_of bytes ≡ l
line_by bytes d l small utf8 is shaped =
    ap (λ b. cond b (of_text (is_utf8 bytes) bytes) e.too_long) (le-leb (length bytes) max_line small)
    ∙ ap (λ b. of_text b bytes) (is_utf8-from_IsUtf8 bytes utf8) ∙ ap of_value is ∙ shaped

-- ---- lines without a number

-- a line that is short and of ASCII alone
constant_line : (bytes : List ℕ) (d : J.Data) (l : Line) → length bytes ≤ max_line → are_ascii bytes ≡ true → read bytes ≡ Some d → of_shape (shape_of d) ≡ l → line_of bytes ≡ l
constant_line bytes d l small ascii is shaped = line_by bytes d l small (IsUtf8-are_ascii bytes ascii) is shaped

abbrev text_member : List ℕ → List ℕ → J.Members → J.Members
text_member k s ms = J.member k (J.string s) ms

abbrev to_do : List ℕ → J.Members → J.Data
to_do name ms = J.object (text_member (codes "do") name ms)

abbrev pub retained : Event
retained = e.retain (codes "h") (codes "B") []

abbrev retain_data : J.Data
retain_data = to_do (codes "retain") (text_member (codes "handle") (codes "h") (text_member (codes "op") (codes "B") J.no_members))

retain_is_read : read retain_line ≡ Some retain_data
unfolding serde_json_on_literals
retain_is_read = refl

pub retain_line_is : line_of retain_line ≡ e.event retained
retain_line_is = constant_line retain_line retain_data (e.event retained) (omega arith) refl retain_is_read refl

abbrev pub watched : Event
watched = e.watch (codes "w") (record { handle = codes "h"; part = None })

abbrev watch_data : J.Data
watch_data = to_do (codes "watch") (text_member (codes "handle") (codes "h") (text_member (codes "watch") (codes "w") J.no_members))

watch_is_read : read watch_line ≡ Some watch_data
unfolding serde_json_on_literals
watch_is_read = refl

pub watch_line_is : line_of watch_line ≡ e.event watched
watch_line_is = constant_line watch_line watch_data (e.event watched) (omega arith) refl watch_is_read refl

abbrev pub begun : Event
begun = e.begin (codes "t") None (C.Add (codes "m") (codes "age") [] (pos 1) ∷ [])

abbrev addition : J.Data
addition = J.object (J.member (codes "add") (J.object (J.member (codes "by") (J.number (J.unsigned 1))
    (text_member (codes "field") (codes "age") (text_member (codes "id") (codes "m") J.no_members)))) J.no_members)

abbrev begin_data : J.Data
begin_data = to_do (codes "begin") (text_member (codes "layer") (codes "t") (J.member (codes "updates") (J.array (J.item addition J.no_items)) J.no_members))

begin_is_read : read (layer_line false) ≡ Some begin_data
unfolding serde_json_on_literals
begin_is_read = refl

pub begin_line_is : line_of (layer_line false) ≡ e.event begun
begin_line_is = constant_line (layer_line false) begin_data (e.event begun) (omega arith) refl begin_is_read refl

abbrev pub reverted : Event
reverted = e.revert (codes "t")

abbrev revert_data : J.Data
revert_data = to_do (codes "revert") (text_member (codes "layer") (codes "t") J.no_members)

revert_is_read : read (layer_line true) ≡ Some revert_data
unfolding serde_json_on_literals
revert_is_read = refl

pub revert_line_is : line_of (layer_line true) ≡ e.event reverted
revert_line_is = constant_line (layer_line true) revert_data (e.event reverted) (omega arith) refl revert_is_read refl

collect_is_read : read collect_line ≡ Some (to_do (codes "collect") J.no_members)
unfolding serde_json_on_literals
collect_is_read = refl

pub collect_line_is : line_of collect_line ≡ e.event e.collect
collect_line_is = constant_line collect_line (to_do (codes "collect") J.no_members) (e.event e.collect) (omega arith) refl collect_is_read refl

-- ---- responses

abbrev data_in : J.Members → J.Data
data_in ms = J.object (J.member (codes "data") (J.object (J.member (codes "me") (J.object ms) J.no_members)) J.no_members)

abbrev of_me : J.Members
of_me = text_member (codes "id") (codes "m") J.no_members

abbrev age_member : ℕ → J.Members → J.Members
age_member age ms = J.member (codes "age") (J.number (J.unsigned age)) ms

-- the user `m` has an age
abbrev pub age_response : (age : ℕ) → J.Data
age_response age = data_in (age_member age of_me)

-- and a friend of the same age
abbrev pub friend_response : (age : ℕ) → J.Data
friend_response age =
    data_in (age_member age (J.member (codes "friend") (J.object (age_member age (text_member (codes "id") (117 ∷ decimal age) J.no_members))) of_me))

abbrev payload_data : J.Data → J.Data
payload_data response = to_do (codes "payload") (text_member (codes "handle") (codes "h") (J.member (codes "response") response J.no_members))

abbrev pub paid : J.Data → Event
paid response = e.payload (record { handle = codes "h"; response = response }) []

shape_of_payload : (response : J.Data) → of_shape (shape_of (payload_data response)) ≡ e.event (paid response)
shape_of_payload response = refl

-- ---- their tokens

abbrev before_me : List Token → List Token
before_me ts =
    tok.begin_object ∷ tok.key (codes "do") ∷ tok.string (codes "payload") ∷ tok.key (codes "handle") ∷ tok.string (codes "h") ∷ tok.key (codes "response")
    ∷ tok.begin_object ∷ tok.key (codes "data") ∷ tok.begin_object ∷ tok.key (codes "me") ∷ tok.begin_object ∷ ts

abbrev behind_me : List Token
behind_me =
    tok.key (codes "id") ∷ tok.string (codes "m") ∷ tok.end_object ∷ tok.end_object ∷ tok.end_object ∷ tok.end_object ∷ []

abbrev age_tokens : (digits : List ℕ) → List Token
age_tokens d = before_me (tok.key (codes "age") ∷ tok.number d ∷ behind_me)

abbrev friend_tokens : (digits : List ℕ) → List Token
friend_tokens d =
    before_me (tok.key (codes "age") ∷ tok.number d ∷ tok.key (codes "friend") ∷ tok.begin_object ∷ tok.key (codes "age") ∷ tok.number d
    ∷ tok.key (codes "id") ∷ tok.string (117 ∷ d) ∷ tok.end_object ∷ behind_me)

abbrev start_text : List ℕ
start_text = codes "{\"do\":\"payload\",\"handle\":\"h\",\"response\":{\"data\":{\"me\":{\"age\":"

abbrev end_text : List ℕ
end_text = codes ",\"id\":\"m\"}}}}"

abbrev friend_text : List ℕ
friend_text = codes ",\"friend\":{\"age\":"

abbrev id_text : List ℕ
id_text = codes ",\"id\":\"u"

abbrev friend_end : List ℕ
friend_end = codes "},\"id\":\"m\"}}}}"

abbrev last_text : List ℕ
last_text = codes "\"},\"id\":\"m\"}}}}"

-- what stands before the digits of the friend's id
abbrev until_id : (digits rest : List ℕ) → List ℕ
until_id d rest = start_text ++ (d ++ (friend_text ++ (d ++ (id_text ++ rest))))

age_printed : (d : List ℕ) → print (age_tokens d) ≡ start_text ++ (d ++ end_text)
unfolding escape_byte print_from
age_printed d = refl

friend_written : (d : List ℕ) → print (friend_tokens d) ≡ until_id d ((escape d ++ 34 ∷ []) ++ friend_end)
unfolding escape_byte print_from
friend_written d = refl

friend_printed : (d : List ℕ) → escape d ≡ d → print (friend_tokens d) ≡ until_id d (d ++ last_text)
friend_printed d same =
    friend_written d ∙ ap (λ (x : List ℕ). until_id d ((x ++ 34 ∷ []) ++ friend_end)) same ∙ ap (until_id d) (append_assoc d (34 ∷ []) friend_end)

regrouped : (a d b c z : List ℕ) → a ++ d ++ b ++ d ++ c ++ d ++ z ≡ a ++ (d ++ (b ++ (d ++ (c ++ (d ++ z)))))
regrouped a d b c z = simp append_assoc refl

age_line_printed : (age : ℕ) → print (age_tokens (decimal age)) ≡ age_line age
age_line_printed age = age_printed (decimal age) ∙ sym (append_assoc start_text (decimal age) end_text)

friend_line_printed : (age : ℕ) → age < 2 ^ 64 → print (friend_tokens (decimal age)) ≡ friend_line age
friend_line_printed age h =
    friend_printed (decimal age) (decimal_escape age h) ∙ sym (regrouped start_text (decimal age) friend_text id_text last_text)

age_tokens_print : (age : ℕ) → age < 2 ^ 64 → ArePrintable (age_tokens (decimal age))
unfolding ArePrintable
age_tokens_print age h =
    let n = IsNumber-decimal age h in
    (tt, (tt, (tt, (tt, (tt, (tt, (tt, (tt, (tt, (tt, (tt, (tt, (n, (tt, (tt, (tt, (tt, (tt, (tt, tt)))))))))))))))))))

friend_tokens_print : (age : ℕ) → age < 2 ^ 64 → ArePrintable (friend_tokens (decimal age))
unfolding ArePrintable
friend_tokens_print age h =
    let n = IsNumber-decimal age h in
    (tt, (tt, (tt, (tt, (tt, (tt, (tt, (tt, (tt, (tt, (tt, (tt, (n, (tt, (tt, (tt, (n, (tt, (tt, (tt, (tt, (tt, (tt, (tt, (tt, (tt, tt))))))))))))))))))))))))))

age_line_tokens : (age : ℕ) → age < 2 ^ 64 → tokens (age_line age) ≡ age_tokens (decimal age)
age_line_tokens age h =
    subst (λ t. tokens t ≡ age_tokens (decimal age)) (age_line_printed age) (tokens-print (age_tokens (decimal age)) (age_tokens_print age h))

friend_line_tokens : (age : ℕ) → age < 2 ^ 64 → tokens (friend_line age) ≡ friend_tokens (decimal age)
friend_line_tokens age h =
    subst (λ t. tokens t ≡ friend_tokens (decimal age)) (friend_line_printed age h) (tokens-print (friend_tokens (decimal age)) (friend_tokens_print age h))

-- ---- their values

abbrev json_text : List ℕ → List ℕ → json.Members → json.Members
json_text k s ms = json.member k (json.string s) ms

abbrev json_payload : json.Members → json.Json
json_payload ms =
    json.object (json_text (codes "do") (codes "payload") (json_text (codes "handle") (codes "h") (json.member (codes "response")
    (json.object (json.member (codes "data") (json.object (json.member (codes "me") (json.object ms) json.no_members)) json.no_members)) json.no_members)))

abbrev json_me : json.Members
json_me = json_text (codes "id") (codes "m") json.no_members

abbrev age_json : (digits : List ℕ) → json.Json
age_json d = json_payload (json.member (codes "age") (json.number d) json_me)

abbrev friend_json : (digits : List ℕ) → json.Json
friend_json d =
    json_payload (json.member (codes "age") (json.number d) (json.member (codes "friend")
    (json.object (json.member (codes "age") (json.number d) (json_text (codes "id") (117 ∷ d) json.no_members))) json_me))

age_value : (d : List ℕ) → json.value max_depth (age_tokens d) ≡ Some (age_json d, [])
unfolding json_on_literals
age_value d = refl

friend_value : (d : List ℕ) → json.value max_depth (friend_tokens d) ≡ Some (friend_json d, [])
unfolding json_on_literals
friend_value d = refl

age_of_json : (age : ℕ) → age < 2 ^ 64 → of_json (age_json (decimal age)) ≡ Some (payload_data (age_response age))
age_of_json age h = rw (number_of-decimal age h) refl

friend_of_json : (age : ℕ) → age < 2 ^ 64 → of_json (friend_json (decimal age)) ≡ Some (payload_data (friend_response age))
friend_of_json age h = rw (number_of-decimal age h) refl

-- ---- their sizes

age_size : (a d z : List ℕ) (n : ℕ) → length a + length d + length z ≤ n → length (a ++ d ++ z) ≤ n
age_size a d z n h = omega (arith, length-append a d, length-append (a ++ d) z)

friend_size : (a d b c z : List ℕ) (n : ℕ) → length a + length b + length c + length z + 3 * length d ≤ n → length (a ++ d ++ b ++ d ++ c ++ d ++ z) ≤ n
friend_size a d b c z n h =
    omega (
      arith,
      length-append a d,
      length-append (a ++ d) b,
      length-append (a ++ d ++ b) d,
      length-append (a ++ d ++ b ++ d) c,
      length-append (a ++ d ++ b ++ d ++ c) d,
      length-append (a ++ d ++ b ++ d ++ c ++ d) z,
    )

few_digits : (n : ℕ) → n < 1000 → length (decimal n) ≤ 3
few_digits n h = length-decimal-le 3 n (omega arith) (omega arith) (omega arith)

age_utf8 : (a d z : List ℕ) → IsUtf8 a → IsUtf8 d → IsUtf8 z → IsUtf8 (a ++ d ++ z)
age_utf8 a d z p q r = IsUtf8-append (a ++ d) z (IsUtf8-append a d p q) r

friend_utf8 : (a d b c z : List ℕ) → IsUtf8 a → IsUtf8 d → IsUtf8 b → IsUtf8 c → IsUtf8 z → IsUtf8 (a ++ d ++ b ++ d ++ c ++ d ++ z)
friend_utf8 a d b c z p q r s t = age_utf8 (a ++ d ++ b ++ d ++ c) d z (age_utf8 (a ++ d ++ b) d c (age_utf8 a d b p q r) q s) q t

-- ---- their events

pub age_line_is : (age : ℕ) → age < 1000 → line_of (age_line age) ≡ e.event (paid (age_response age))
age_line_is age h =
    line_by (age_line age) (payload_data (age_response age)) (e.event (paid (age_response age)))
    (age_size start_text (decimal age) end_text max_line (omega (arith, few_digits age h)))
    (age_utf8 start_text (decimal age) end_text (IsUtf8-are_ascii start_text refl) (decimal_utf8 age (omega arith)) (IsUtf8-are_ascii end_text refl))
    (read_by (age_line age) (age_tokens (decimal age)) (age_json (decimal age)) (payload_data (age_response age))
    (age_line_tokens age (omega arith)) (age_value (decimal age)) (age_of_json age (omega arith)))
    (shape_of_payload (age_response age))

pub friend_line_is : (age : ℕ) → age < 1000 → line_of (friend_line age) ≡ e.event (paid (friend_response age))
friend_line_is age h =
    line_by (friend_line age) (payload_data (friend_response age)) (e.event (paid (friend_response age)))
    (friend_size start_text (decimal age) friend_text id_text last_text max_line (omega (arith, few_digits age h)))
    (friend_utf8 start_text (decimal age) friend_text id_text last_text (IsUtf8-are_ascii start_text refl) (decimal_utf8 age (omega arith))
    (IsUtf8-are_ascii friend_text refl) (IsUtf8-are_ascii id_text refl) (IsUtf8-are_ascii last_text refl))
    (read_by (friend_line age) (friend_tokens (decimal age)) (friend_json (decimal age)) (payload_data (friend_response age))
    (friend_line_tokens age (omega arith)) (friend_value (decimal age)) (friend_of_json age (omega arith)))
    (shape_of_payload (friend_response age))
