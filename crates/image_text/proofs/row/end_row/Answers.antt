use Rattle.std.proofs.Common.{◌≡◌, ◌∷◌, ◌++◌, [], sym, ap, subst, ◌∙◌, append_assoc, append-nil}
use Rattle.std.specs.Str.{IsUtf8}
use Rattle.std.proofs.lemmas.Str.{IsUtf8-append}
use Rattle.json.specs.Print.{print}
use Rattle.store_model.proofs.gql_plain_laws.Tokens.{print-tree_tokens}
use Rattle.image_text.specs.Lines.{inner, row_line, row_text}
use Rattle.image_text.proofs.RowLaws.{ended, lf_utf8}
use Rattle.image_text.proofs.row.end_row.Goals as goal

pub returns : goal.returns
returns c before items is =
    let tokens = c.end_array.new.self.tokens in
    let text : print tokens ≡ row_text items = ap print (ended is c.in_ok-end_array.ensures.ok) ∙ print-tree_tokens (inner items) in
    let start : c.end_array.new.self.before ≡ before = c.in_ok-end_array.ensures.room.0 ∙ is.begun in
    let shown : c.into_inner-out.result.items ≡ before ++ row_text items = c.into_inner-out.ensures.items ∙ (λ i. start i ++ text i) in
    let put : c.push.new.self.items ≡ c.into_inner-out.result.items ++ 10 ∷ [] = c.in_ok-push.ensures.items in
    record {
      text = put ∙ ap (λ bs. bs ++ 10 ∷ []) shown ∙ append_assoc before (row_text items) (10 ∷ []) ∙ ap (λ bs. before ++ bs) (sym (append-nil (row_line items)));
      utf8 = λ h.
          subst IsUtf8 (sym (put ∙ ap (λ bs. bs ++ 10 ∷ []) shown))
          (IsUtf8-append (before ++ row_text items) (10 ∷ []) (IsUtf8-append before (row_text items) h (subst IsUtf8 text c.into_inner-out.ensures.utf8)) lf_utf8);
    }
