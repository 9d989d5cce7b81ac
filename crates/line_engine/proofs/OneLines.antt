-- Printed lines have no LF but the one that ends them, so a list of such texts is told by what is written of it.
use Rattle.std.proofs.Common.{◌≡◌, ℕ, zero, suc, ◌+◌, ◌/◌, ◌%◌, ℤ, pos, negsuc, Bool, true, false, true≢false, ◌||◌, ◌==◌, ◌⊎◌, cond, nat_lt, List, [], ◌∷◌, ◌++◌, codes, length, map, drop, get_or, inl, inr, append-nil, append_assoc, length-append, refl, sym, ap, subst, ◌∙◌, arith}
use Rattle.std.proofs.lemmas.Bool.{eqb-true, ne_eqb, or_cases}
use Rattle.std.specs.Char.{digit_char}
use Rattle.std.specs.Fmt.{decimal, digit_glyph, digits, digits_onto, signed_decimal}
use Rattle.std.specs.List.{AllByRecursion}
use Rattle.json.specs.Print.{escape, escape_byte, escape_letter, quoted}
use Rattle.plan_ir.specs.gql_plain.ToJson.{compact, more_members, more_trees}
use Rattle.plan_ir.specs.gql_plain.Tree.{Tree, null, truth, whole, text, list, object, Trees, no_trees, tree, trees_of, Members, no_members, member}
use Rattle.plan_ir.specs.schema_tables.Types.{Text}
use Rattle.plan_ir.specs.store_model.Walks.{Reading, shown_object}
use Rattle.line_engine.specs.Kept.{Kept}
use Rattle.line_engine.specs.Steps.{AreSingle, HasPrinted, HasStepped, IsOneLine, written}
use Rattle.line_engine.specs.declared.lines.Lines.{Lines}
use Rattle.relay_machine.specs.Machine.{Project, State, Step}
use Rattle.relay_machine.specs.Printed.{collect_line, event_line, in_order, line, number, refusal_line, shown_line}
use Rattle.relay_machine.specs.Refusals.{Refusal, code_of, keys_of, name_of}
use Rattle.relay_machine.specs.Script.{lines_from, lines_of}

-- ---- lists

pub each_append : {X : Type 0} (P : X → Type 0) (xs ys : List X) → AllByRecursion P xs → AllByRecursion P ys → AllByRecursion P (xs ++ ys)
each_append P [] ys all more = more
each_append P (x ∷ xs) ys all more = (all.0, each_append P xs ys all.1 more)

both : (xs ys : Text) → IsOneLine xs → IsOneLine ys → IsOneLine (xs ++ ys)
both xs ys one more = each_append (λ b. (b == 10) ≡ false) xs ys one more

-- ---- numbers

by_size : (b : Bool) (d : ℕ) → (cond b (48 + d) (87 + d) == 10) ≡ false
by_size true d = ne_eqb (48 + d) 10 (λ e. omega (arith, e))
by_size false d = ne_eqb (87 + d) 10 (λ e. omega (arith, e))

glyph_one : (d : ℕ) → (digit_glyph false d == 10) ≡ false
glyph_one d = by_size (nat_lt d 10) d

by_left : (b : Bool) (now later : Text) → IsOneLine now → IsOneLine later → IsOneLine (cond b now later)
by_left true now later one more = one
by_left false now later one more = more

digits_one : (k n : ℕ) (acc : Text) → IsOneLine acc → IsOneLine (digits_onto k 10 false n acc)
digits_one zero n acc one = one
digits_one (suc k) n acc one =
    by_left (n / 10 == 0) (digit_glyph false (n % 10) ∷ acc) (digits_onto k 10 false (n / 10) (digit_glyph false (n % 10) ∷ acc)) (glyph_one (n % 10), one)
    (digits_one k (n / 10) (digit_glyph false (n % 10) ∷ acc) (glyph_one (n % 10), one))

decimal_one : (n : ℕ) → IsOneLine (decimal n)
unfolding digits
decimal_one n = digits_one 64 n [] tt

signed_one : (z : ℤ) → IsOneLine (signed_decimal z)
signed_one (pos n) = decimal_one n
signed_one (negsuc n) = (refl, decimal_one (suc n))

-- ---- texts between quotes

letter_by : (a b c d e f : Bool) (x : ℕ) → (a ≡ true → (x == 10) ≡ false) → (cond a x (cond b 98 (cond c 102 (cond d 110 (cond e 114 (cond f 116 0))))) == 10) ≡ false
letter_by true b c d e f x h = h refl
letter_by false true c d e f x h = refl
letter_by false false true d e f x h = refl
letter_by false false false true e f x h = refl
letter_by false false false false true f x h = refl
letter_by false false false false false true x h = refl
letter_by false false false false false false x h = refl

letter_one : (x : ℕ) → (escape_letter x == 10) ≡ false
letter_one x =
    letter_by ((x == 34) || (x == 92)) (x == 8) (x == 12) (x == 10) (x == 13) (x == 9) x (λ e. by_cases (or_cases (x == 34) (x == 92) e))
  where
    by_cases : ((x == 34) ≡ true) ⊎ ((x == 92) ≡ true) → (x == 10) ≡ false
    by_cases (inl e) = ap (λ y. y == 10) (eqb-true x 34 e)
    by_cases (inr e) = ap (λ y. y == 10) (eqb-true x 92 e)

char_one : (d : ℕ) → (digit_char d == 10) ≡ false
char_one d = by_size (nat_lt d 10) d

byte_by : (a b : Bool) (x : ℕ) → nat_lt x 32 ≡ b → IsOneLine (cond a (92 ∷ escape_letter x ∷ []) (cond b (92 ∷ 117 ∷ 48 ∷ 48 ∷ digit_char (x / 16) ∷ digit_char (x % 16) ∷ []) (x ∷ [])))
byte_by true b x is = (refl, (letter_one x, tt))
byte_by false true x is = (refl, (refl, (refl, (refl, (char_one (x / 16), (char_one (x % 16), tt))))))
byte_by false false x is = (ne_eqb x 10 (λ e. true≢false (sym (ap (λ y. nat_lt y 32) e) ∙ is)), tt)

byte_one : (x : ℕ) → IsOneLine (escape_byte x)
unfolding escape_byte
byte_one x = byte_by (nat_lt 0 (escape_letter x)) (nat_lt x 32) x refl

escape_one : (s : Text) → IsOneLine (escape s)
escape_one [] = tt
escape_one (x ∷ s) = both (escape_byte x) (escape s) (byte_one x) (escape_one s)

quoted_one : (s : Text) → IsOneLine (quoted s)
quoted_one s = (refl, both (escape s) (34 ∷ []) (escape_one s) (refl, tt))

-- ---- trees

mutual
  tree_one : (t : Tree) → IsOneLine (compact t)
  tree_one null = (refl, (refl, (refl, (refl, tt))))
  tree_one (truth true) = (refl, (refl, (refl, (refl, tt))))
  tree_one (truth false) = (refl, (refl, (refl, (refl, (refl, tt)))))
  tree_one (whole z) = signed_one z
  tree_one (text s) = quoted_one s
  tree_one (list no_trees) = (refl, (refl, tt))
  tree_one (list (tree t ts)) = (refl, both (compact t) (more_trees ts) (tree_one t) (trees_one ts))
  tree_one (object no_members) = (refl, (refl, tt))
  tree_one (object (member k t ms)) =
      (refl, both (quoted k) (58 ∷ (compact t ++ more_members ms)) (quoted_one k) (refl, both (compact t) (more_members ms) (tree_one t) (members_one ms)))

  trees_one : (ts : Trees) → IsOneLine (more_trees ts)
  trees_one no_trees = (refl, tt)
  trees_one (tree t ts) = (refl, both (compact t) (more_trees ts) (tree_one t) (trees_one ts))

  members_one : (ms : Members) → IsOneLine (more_members ms)
  members_one no_members = (refl, tt)
  members_one (member k t ms) =
      (refl, both (quoted k) (58 ∷ (compact t ++ more_members ms)) (quoted_one k) (refl, both (compact t) (more_members ms) (tree_one t) (members_one ms)))

-- ---- lines

-- two texts with the same last byte
same_front : (xs ys : Text) → xs ++ 10 ∷ [] ≡ ys ++ 10 ∷ [] → xs ≡ ys
same_front [] [] e = refl
same_front [] (y ∷ ys) e = absurd (omega (arith, ap (λ (l : Text). length l) e, length-append ys (10 ∷ [])))
same_front (x ∷ xs) [] e = absurd (omega (arith, ap (λ (l : Text). length l) e, length-append xs (10 ∷ [])))
same_front (x ∷ xs) (y ∷ ys) e = λ i. get_or (e i) 0 0 ∷ same_front xs ys (ap (drop 1) e) i

-- what a line is without its end
pub line_one : (members : List (Text × Tree)) (words : Text) → words ++ 10 ∷ [] ≡ line members → IsOneLine words
line_one members words e =
    let front : words ≡ compact (shown_object (in_order members)) = same_front words (compact (shown_object (in_order members))) e in
    subst IsOneLine (sym front) (tree_one (shown_object (in_order members)))

pub event_one : (event : Text) (n : ℕ) (words : Text) → words ++ 10 ∷ [] ≡ event_line event n → IsOneLine words
event_one event n words e = line_one ((codes "n", number n) ∷ (codes "ok", text event) ∷ []) words e

pub shown_one : (n : ℕ) (of : Text × Tree) (r : Reading) (words : Text) → words ++ 10 ∷ [] ≡ shown_line n of r → IsOneLine words
shown_one n of r words e =
    line_one ((codes "data", r.value) ∷ (codes "missing", truth r.missing) ∷ (codes "n", number n) ∷ of ∷ (codes "seen", list (trees_of (map text r.seen))) ∷ []) words e

pub collect_one : (n dropped : ℕ) (words : Text) → words ++ 10 ∷ [] ≡ collect_line n dropped → IsOneLine words
collect_one n dropped words e =
    line_one ((codes "dropped", number dropped) ∷ (codes "n", number n) ∷ (codes "ok", text (codes "collect")) ∷ (codes "waiting", truth false) ∷ []) words e

pub refusal_one : (n : ℕ) (r : Refusal) (words : Text) → words ++ 10 ∷ [] ≡ refusal_line n r → IsOneLine words
refusal_one n r words e = line_one ((codes "code", number (code_of r)) ∷ (codes "error", text (name_of r)) ∷ (codes "n", number n) ∷ keys_of r) words e

-- ---- texts that are lines

line_cut : (part t rest : Text) (ended : Bool) → IsOneLine t → lines_from part (t ++ 10 ∷ rest) ended ≡ (part ++ t) ∷ lines_from [] rest ended
line_cut part [] rest ended one = ap (λ (l : Text). l ∷ lines_from [] rest ended) (sym (append-nil part))
line_cut part (b ∷ t) rest ended one =
    ap (λ c. cond c (part ∷ lines_from [] (t ++ 10 ∷ rest) ended) (lines_from (part ++ b ∷ []) (t ++ 10 ∷ rest) ended)) one.0
    ∙ line_cut (part ++ b ∷ []) t rest ended one.1 ∙ ap (λ (l : Text). l ∷ lines_from [] rest ended) (append_assoc part (b ∷ []) t)

lines_cut : (ts : List Text) (ended : Bool) → AreSingle ts → lines_of (written ts) ended ≡ ts
lines_cut [] ended all = refl
lines_cut (t ∷ ts) ended all =
    ap (λ (l : Text). lines_of l ended) (append_assoc t (10 ∷ []) (written ts)) ∙ line_cut [] t (written ts) ended all.0 ∙ ap (λ us. t ∷ us) (lines_cut ts ended all.1)

pub has_printed : (old new : Kept) (lines : Lines) (step : Project → State → Step) → HasStepped old new lines step → HasPrinted old lines step
has_printed old new lines step stepped p s stands =
    let taken = stepped p s stands in sym (lines_cut lines.texts.items false taken.single) ∙ ap (λ (t : Text). lines_of t false) taken.text
