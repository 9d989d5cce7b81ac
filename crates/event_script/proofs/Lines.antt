-- What a line is, by its length and by whether it is text.
use Rattle.std.proofs.Common.{◌≡◌, ◌≤◌, Bool, true, false, length, cond, sym, ap, ◌∙◌}
use Rattle.std.proofs.lemmas.Bool.{le-leb, false_from_ne_true}
use Rattle.std.proofs.lemmas.Str.{IsUtf8-from_is_utf8, is_utf8-from_IsUtf8}
use Rattle.std.specs.Str.{IsUtf8, is_utf8}
use Rattle.serde_json.specs.Read.{read as read_text}
use Rattle.store_model.specs.store_record.Keys.{Text}
use Rattle.store_model.specs.gql_plain.Limits.{max_line}
use Rattle.store_model.specs.Events.{not_json, too_long, of_text, of_value, line_of}

line_of-within : (bytes : Text) (is_text : Bool) → length bytes ≤ max_line → is_utf8 bytes ≡ is_text → of_text is_text bytes ≡ line_of bytes
line_of-within bytes is_text within is =
    ap (λ b. of_text b bytes) (sym is)
    ∙ ap (λ b. cond b (of_text (is_utf8 bytes) bytes) too_long) (sym (le-leb (length bytes) max_line within))

pub line_of-text : (bytes text : Text) → length bytes ≤ max_line → IsUtf8 bytes → text ≡ bytes → of_value (read_text text) ≡ line_of bytes
line_of-text bytes text within utf8 same =
    ap (λ t. of_value (read_text t)) same ∙ line_of-within bytes true within (is_utf8-from_IsUtf8 bytes utf8)

pub line_of-no_text : (bytes : Text) → length bytes ≤ max_line → (IsUtf8 bytes → ⊥) → line_of bytes ≡ not_json
line_of-no_text bytes within other =
    sym (line_of-within bytes false within (false_from_ne_true (is_utf8 bytes) (λ is. other (IsUtf8-from_is_utf8 bytes is))))
