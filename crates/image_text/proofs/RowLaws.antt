-- Rows that are written item by item, and lines that are put one after another.
use Rattle.std.proofs.Common.{◌≡◌, ℕ, ◌+◌, ◌<◌, ◌≤◌, suc, zero, List, [], ◌∷◌, ◌++◌, length, drop, map, get_or, refl, sym, ap, ◌∙◌, subst, arith, append_assoc, append-nil, add-one, drop-cons}
use Rattle.std.specs.List.{AllByRecursion}
use Rattle.std.proofs.lemmas.Str.{IsUtf8-from_ascii}
use Rattle.std.specs.Prelude.{slice_index}
use Rattle.std.specs.Str.{IsUtf8}
use Rattle.store_model.specs.gql_plain.ToJson.{tree_tokens, trees_tokens}
use Rattle.store_model.specs.gql_plain.Tree.{Tree, text, trees_of}
use Rattle.image_marks.specs.store_record.Keys.{Text}
use Rattle.store_model.specs.FactRows.{facts_of, facts_of_row}
use Rattle.store_model.specs.declared.facts.Fact.{Fact}
use Rattle.store_model.specs.declared.facts.FactRow.{FactRow}
use Rattle.json.specs.Token.{Token, begin_array, end_array}
use Rattle.json.specs.Written.{Written}
use Rattle.image_marks.proofs.MarkTokens.{flat_tokens-are}
use Rattle.image_marks.specs.Flat.{flat}
use Rattle.image_marks.specs.MarkTokens.{flat_tokens}
use Rattle.image_text.specs.Lines.{Row, inner, marks, text_of_rows, row_line}
use Rattle.image_text.specs.Rows.{Adds, IsRow, Puts, row_front}

row_front-push : (row : Row) (t : Tree) → row_front row ++ tree_tokens t ≡ row_front (row ++ t ∷ [])
row_front-push [] t = sym (append-nil (tree_tokens t))
row_front-push (x ∷ row) t = append_assoc (tree_tokens x) (row_front row) (tree_tokens t) ∙ ap (λ ts. tree_tokens x ++ ts) (row_front-push row t)

-- one more item
pub more : {before : List ℕ} {row : Row} {old new : Written} {t : Tree} → IsRow before row old → Puts t old new → IsRow before (row ++ t ∷ []) new
more {row = row} {t = t} h p = record {
  begun = p.begun ∙ h.begun;
  is = p.tokens ∙ ap (λ ts. ts ++ tree_tokens t) h.is ∙ ap (λ ts. begin_array ∷ ts) (row_front-push row t);
}

-- one more text
pub said : {before : List ℕ} {row : Row} {old new : Written} {words name : Text} → words ≡ name → IsRow before row old → Puts (text words) old new → IsRow before (row ++ text name ∷ []) new
said {before} {row} {new = new} e h p = subst (λ name. IsRow before (row ++ text name ∷ []) new) e (more h p)

row_front-end : (row : Row) → row_front row ++ end_array ∷ [] ≡ trees_tokens (trees_of row)
row_front-end [] = refl
row_front-end (t ∷ row) = append_assoc (tree_tokens t) (row_front row) (end_array ∷ []) ∙ ap (λ ts. tree_tokens t ++ ts) (row_front-end row)

-- the tokens of a whole row
pub ended : {before : List ℕ} {row : Row} {w : Written} {tokens : List Token} → IsRow before row w → tokens ≡ w.tokens ++ end_array ∷ [] → tokens ≡ tree_tokens (inner row)
ended {row = row} h e = e ∙ ap (λ ts. ts ++ end_array ∷ []) h.is ∙ ap (λ ts. begin_array ∷ ts) (row_front-end row)

-- tokens between brackets
pub bracketed : {a b new : List Token} (old ts : List Token) → a ≡ old ++ begin_array ∷ [] → b ≡ a ++ ts → new ≡ b ++ end_array ∷ [] → new ≡ old ++ begin_array ∷ (ts ++ end_array ∷ [])
bracketed old ts first middle last =
    last ∙ ap (λ us. us ++ end_array ∷ []) (middle ∙ ap (λ us. us ++ ts) first ∙ append_assoc old (begin_array ∷ []) ts) ∙ append_assoc old (begin_array ∷ ts) (end_array ∷ [])

marks_tokens : (t : Tree) → flat_tokens t ++ end_array ∷ [] ≡ trees_tokens (trees_of (flat t))
marks_tokens t = sym (flat_tokens-are t []) ∙ ap (λ ts. trees_tokens (trees_of ts)) (append-nil (flat t))

pub marks_put : {a b new : List Token} (old : List Token) (t : Tree) → a ≡ old ++ begin_array ∷ [] → b ≡ a ++ flat_tokens t → new ≡ b ++ end_array ∷ [] → new ≡ old ++ tree_tokens (marks t)
marks_put old t first middle last = bracketed old (flat_tokens t) first middle last ∙ ap (λ ts. old ++ begin_array ∷ ts) (marks_tokens t)

-- two items between brackets
pub pair_put : {a b c new : List Token} (old : List Token) (t u : Tree) → a ≡ old ++ begin_array ∷ [] → b ≡ a ++ tree_tokens t → c ≡ b ++ tree_tokens u → new ≡ c ++ end_array ∷ []
    → new ≡ old ++ tree_tokens (inner (t ∷ u ∷ []))
pair_put {a} old t u first second third last =
    bracketed old (tree_tokens t ++ tree_tokens u) first (third ∙ ap (λ ts. ts ++ tree_tokens u) second ∙ append_assoc a (tree_tokens t) (tree_tokens u)) last
    ∙ ap (λ ts. old ++ begin_array ∷ ts) (append_assoc (tree_tokens t) (tree_tokens u) (end_array ∷ []))

-- the end of a line is ASCII
lf_ascii : (i : ℕ) → slice_index (10 ∷ []) i < 128
lf_ascii zero = omega arith
lf_ascii (suc i) = omega arith

pub lf_utf8 : IsUtf8 (10 ∷ [])
lf_utf8 = IsUtf8-from_ascii (10 ∷ []) lf_ascii

-- ---- lines

pub adds_none : (old : List ℕ) → Adds [] old old
adds_none old = record { text = sym (append-nil old); utf8 = λ h. h }

text_of_both : (rows next : List Row) → text_of_rows (rows ++ next) ≡ text_of_rows rows ++ text_of_rows next
text_of_both [] next = refl
text_of_both (row ∷ rows) next = ap (λ ts. row_line row ++ ts) (text_of_both rows next) ∙ sym (append_assoc (row_line row) (text_of_rows rows) (text_of_rows next))

pub adds_both : {old mid new : List ℕ} (rows next : List Row) → Adds rows old mid → Adds next mid new → Adds (rows ++ next) old new
adds_both {old} rows next first second = record {
  text =
      second.text ∙ ap (λ bs. bs ++ text_of_rows next) first.text ∙ append_assoc old (text_of_rows rows) (text_of_rows next)
      ∙ ap (λ bs. old ++ bs) (sym (text_of_both rows next));
  utf8 = λ h. second.utf8 (first.utf8 h);
}

-- ---- loops over lists

pub none_left : {X : Type 0} (xs : List X) (i : ℕ) → length xs ≤ i → drop i xs ≡ []
none_left [] zero h = refl
none_left [] (suc i) h = refl
none_left (x ∷ xs) zero h = absurd (omega arith)
none_left (x ∷ xs) (suc i) h = none_left xs i (omega arith)

pub one_left : {X : Type 0} (xs : List X) (i : ℕ) (x : X) → i < length xs → x ≡ get_or xs i x → drop i xs ≡ x ∷ drop (i + 1) xs
one_left xs i x within is = drop-cons xs i x within ∙ (λ k. (sym is k) ∷ drop (sym (add-one i) k) xs)

-- what is left puts behind what is put what the whole puts behind the start
abbrev pub Continues : {X : Type 0} → (List X → List Row) → List X → ℕ → List ℕ → List ℕ → Type 0
Continues rows xs i start now = (new : List ℕ) → Adds (rows (drop i xs)) now new → Adds (rows xs) start new

module _ {X : Type 0} (one : X → List Row) (rows : List X → List Row) (none : rows [] ≡ []) (cons : (x : X) (xs : List X) → rows (x ∷ xs) ≡ one x ++ rows xs) where
  pub going : (xs : List X) (i : ℕ) (x : X) (start old mid : List ℕ) → drop i xs ≡ x ∷ drop (i + 1) xs → Continues rows xs i start old → Adds (one x) old mid → Continues rows xs (i + 1) start mid
  going xs i x start old mid here before put new rest =
      before new (subst (λ ys. Adds ys old new) (sym (ap rows here ∙ cons x (drop (i + 1) xs))) (adds_both (one x) (rows (drop (i + 1) xs)) put rest))

  pub gone : (xs : List X) (i : ℕ) (start now : List ℕ) → length xs ≤ i → Continues rows xs i start now → Adds (rows xs) start now
  gone xs i start now end before = before now (subst (λ ys. Adds ys now now) (sym (ap rows (none_left xs i end) ∙ none)) (adds_none now))

-- all hold it if what is left does
abbrev pub Carries : {X : Type 0} → (X → Type 0) → List X → ℕ → Type 0
Carries P xs i = AllByRecursion P (drop i xs) → AllByRecursion P xs

pub carried : {X : Type 0} (P : X → Type 0) (xs : List X) (i : ℕ) (x : X) → drop i xs ≡ x ∷ drop (i + 1) xs → Carries P xs i → P x → Carries P xs (i + 1)
carried P xs i x here before is rest = before (subst (AllByRecursion P) (sym here) (is, rest))

pub all_carried : {X : Type 0} (P : X → Type 0) (xs : List X) (i : ℕ) → length xs ≤ i → Carries P xs i → AllByRecursion P xs
all_carried P xs i end before = before (subst (AllByRecursion P) (sym (none_left xs i end)) tt)

-- ---- facts, row by row

pub mapped_both : {X Y : Type 0} (f : X → Y) (xs ys : List X) → map f (xs ++ ys) ≡ map f xs ++ map f ys
mapped_both f [] ys = refl
mapped_both f (x ∷ xs) ys = ap (λ zs. f x ∷ zs) (mapped_both f xs ys)

pub all_both : {X : Type 0} (P : X → Type 0) (xs ys : List X) → AllByRecursion P xs → AllByRecursion P ys → AllByRecursion P (xs ++ ys)
all_both P [] ys h k = k
all_both P (x ∷ xs) ys h k = (h.0, all_both P xs ys h.1 k)

pub all_mapped : {X Y : Type 0} (P : X → Type 0) (Q : Y → Type 0) (f : X → Y) → ((x : X) → P x → Q (f x)) → (xs : List X) → AllByRecursion P xs → AllByRecursion Q (map f xs)
all_mapped P Q f each [] h = tt
all_mapped P Q f each (x ∷ xs) h = (each x h.0, all_mapped P Q f each xs h.1)

-- all facts of rows hold it where those of each row do
pub joined_facts : (Q : Fact → Type 0) (rows : List FactRow) → AllByRecursion (λ (r : FactRow). AllByRecursion Q (facts_of_row r)) rows → AllByRecursion Q (facts_of rows)
joined_facts Q [] h = tt
joined_facts Q (r ∷ rs) h = all_both Q (facts_of_row r) (facts_of rs) h.0 (joined_facts Q rs h.1)
