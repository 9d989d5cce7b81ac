use Rattle.std.proofs.Common.{◌≡◌, ◌++◌, ℕ, List, codes, ap, sym, ◌∙◌, append_assoc}
use Rattle.std.specs.Fmt.{decimal}
use Rattle.relay_machine.specs.Bulk.{friend_line, line_of_kind}
use Rattle.relay_forms.proofs.bulk.line_of_kind.Goals as goal

-- the pieces of a line with three numbers
to_left : (a d b e f : List ℕ) → a ++ (d ++ (b ++ (d ++ (e ++ (d ++ f))))) ≡ (((((a ++ d) ++ b) ++ d) ++ e) ++ d) ++ f
to_left a d b e f =
    sym (append_assoc a d _) ∙ sym (append_assoc (a ++ d) b _) ∙ sym (append_assoc ((a ++ d) ++ b) d _) ∙ sym (append_assoc (((a ++ d) ++ b) ++ d) e _)
    ∙ sym (append_assoc ((((a ++ d) ++ b) ++ d) ++ e) d f)

pub returns-in_ok-format-in-0 : goal.returns-in_ok-format-in-0
returns-in_ok-format-in-0 c =
    let front = codes "{\"do\":\"payload\",\"handle\":\"h\",\"response\":{\"data\":{\"me\":{\"age\":" in
    let friend = codes ",\"friend\":{\"age\":" in
    let id = codes ",\"id\":\"u" in
    let end = codes "\"},\"id\":\"m\"}}}}" in
    let age = decimal c.args.age in
    let written : c.in_ok-format-in-0.field-0.bytes.items ≡ front ++ (age ++ (friend ++ (age ++ (id ++ (age ++ end))))) = c.in_ok-format-in-0.ensures.ok in
    written ∙ to_left front age friend id end ∙ ap (λ k. line_of_kind k c.args.age c.args.live) (sym c.in-0.is)
