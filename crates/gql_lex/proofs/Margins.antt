-- Lines as references to them; their indents; blank lines; lines joined.
use Rattle.std.proofs.Common.{◌≡◌, ℕ, zero, suc, ◌+◌, ◌-◌, ◌<◌, ◌≤◌, min, Bool, true, false, cond, eqb, List, [], ◌∷◌, ◌++◌, map, length, get_or, take, drop, Option, Some, None, unwrap_or, refl, lit<, arith, sym, ap, ◌∙◌, IsUtf8, IsCharBoundary, append_assoc}
use Rattle.std.specs.List.{prefix_len, suffix_len}
use denote.Bor.{Bor}
use Rattle.std.proofs.lemmas.Bool.{eqb-true, ne_eqb, cond_both}
use Rattle.std.proofs.lemmas.List.{drop_more, take_more, map-append, length-map, length-take-le, drop_all, drop_min, take-map}
use Rattle.std.proofs.lemmas.List.Sums.{prefix_len-le-length, prefix_len_passes, suffix_len-take_yes, suffix_len-take_no}
use Rattle.std.proofs.lemmas.Str.{IsCharBoundary-after_ascii}
use Rattle.gql_lex.specs.Lines.{texts, lines, onto_first, ends_line}
use Rattle.gql_lex.specs.Values.{is_indent, indent, is_blank_line, least, least_indent, common_indent, unindent, join_lines, without_blank_start, without_blank_end}
use Rattle.gql_lex.proofs.Extents.{or_below, same_below}

indent_below : (c : ℕ) → is_indent c ≡ true → c < 128
indent_below c = or_below c (eqb c 32) (eqb c 9) (same_below c 32 (lit< tt)) (same_below c 9 (lit< tt))

pub indent_boundary : (bs : List ℕ) (n : ℕ) → IsUtf8 bs → 0 < n → n ≤ indent bs → IsCharBoundary bs n
indent_boundary bs n u p l =
    let i : n - 1 + 1 ≡ n = omega arith in
    let w : n - 1 < length bs = omega (arith, prefix_len-le-length is_indent bs) in
    rw i at (IsCharBoundary-after_ascii bs (n - 1) u w (indent_below (get_or bs (n - 1) 0) (prefix_len_passes is_indent bs (n - 1) 0 (omega arith))))

-- ---- lists of lines

pub texts_more : (ls : List (Bor (List ℕ))) (i : ℕ) (d : Bor (List ℕ)) → i < length ls → texts (drop i ls) ≡ (get_or ls i d).now ∷ texts (drop (i + 1) ls)
texts_more ls i d l = ap (λ x. texts x) (drop_more ls i d l)

pub texts_taken : (ls : List (Bor (List ℕ))) (i : ℕ) (d : Bor (List ℕ)) → i < length ls → texts (take (i + 1) ls) ≡ texts (take i ls) ++ (get_or ls i d).now ∷ []
texts_taken ls i d l = ap (λ x. texts x) (take_more ls i d l) ∙ map-append (λ (x : Bor (List ℕ)). x.now) (take i ls) (get_or ls i d ∷ [])

pub texts_push : (ls : List (Bor (List ℕ))) (l : Bor (List ℕ)) → texts (ls ++ l ∷ []) ≡ texts ls ++ l.now ∷ []
texts_push ls l = map-append (λ (x : Bor (List ℕ)). x.now) ls (l ∷ [])

pub text_at : (ls : List (Bor (List ℕ))) (i : ℕ) (d : Bor (List ℕ)) → i < length ls → get_or (texts ls) i [] ≡ (get_or ls i d).now
text_at [] i d l = absurd (omega arith)
text_at (x ∷ xs) zero d l = refl
text_at (x ∷ xs) (suc i) d l = text_at xs i d (omega arith)

-- ---- blank lines in front

pub blank_more : (ls : List (Bor (List ℕ))) (i : ℕ) (d : Bor (List ℕ)) → i < length ls → is_blank_line (get_or ls i d).now ≡ true
    → prefix_len is_blank_line (texts ls) ≡ i + prefix_len is_blank_line (texts (drop i ls)) → prefix_len is_blank_line (texts ls) ≡ i + 1 + prefix_len is_blank_line (texts (drop (i + 1) ls))
blank_more ls i d l b w =
    let m : prefix_len is_blank_line (texts (drop i ls)) ≡ 1 + prefix_len is_blank_line (texts (drop (i + 1) ls)) = rw (texts_more ls i d l, b) refl in
    omega (arith, w, m)

pub blank_stop : (ls : List (Bor (List ℕ))) (i : ℕ) (d : Bor (List ℕ)) → i < length ls → is_blank_line (get_or ls i d).now ≡ false
    → prefix_len is_blank_line (texts ls) ≡ i + prefix_len is_blank_line (texts (drop i ls)) → i ≡ prefix_len is_blank_line (texts ls)
blank_stop ls i d l b w =
    let m : prefix_len is_blank_line (texts (drop i ls)) ≡ 0 = rw (texts_more ls i d l, b) refl in
    omega (arith, w, m)

pub blank_all : (ls : List (Bor (List ℕ))) (i : ℕ) → length ls ≤ i → i ≤ length ls
    → prefix_len is_blank_line (texts ls) ≡ i + prefix_len is_blank_line (texts (drop i ls)) → length ls ≡ prefix_len is_blank_line (texts ls)
blank_all ls i h l w =
    let m : prefix_len is_blank_line (texts (drop i ls)) ≡ 0 = rw (drop_all i ls h) refl in
    omega (arith, w, m)

-- ---- the common indent

abbrev pub cut_lines : ℕ → List (List ℕ) → List (List ℕ)
cut_lines c ls = map (λ (m : List ℕ). drop (min c (indent m)) m) ls

AtMost : ℕ → Option ℕ → Type 0
AtMost c None = Unit {0}
AtMost c (Some m) = c ≤ m

blank_cut : (c : ℕ) (m : List ℕ) → is_blank_line m ≡ true → drop (min c (indent m)) m ≡ drop c m
blank_cut c m b = let e = eqb-true (indent m) (length m) b in rw e (drop_min c m)

plain_cut : (c : ℕ) (m : List ℕ) → c ≤ indent m → drop (min c (indent m)) m ≡ drop c m
plain_cut c m l = let e : min c (indent m) ≡ c = omega arith in rw e refl

both_least : (c n : ℕ) (most : Option ℕ) → c ≤ least n most → (c ≤ n) × AtMost c most
unfolding AtMost
both_least c n None l = (l, tt)
both_least c n (Some m) l = (omega arith, omega arith)

same_lines : (x y : List ℕ) (xs ys : List (List ℕ)) → x ≡ y → xs ≡ ys → x ∷ xs ≡ y ∷ ys
same_lines x y xs ys e f = cc

cut_by : (b : Bool) (c : ℕ) (l : List ℕ) (ls : List (List ℕ)) → is_blank_line l ≡ b → AtMost c (cond b (least_indent ls) (Some (least (indent l) (least_indent ls))))
    → (AtMost c (least_indent ls) → cut_lines c ls ≡ map (λ (m : List ℕ). drop c m) ls) → cut_lines c (l ∷ ls) ≡ map (λ (m : List ℕ). drop c m) (l ∷ ls)
unfolding AtMost
cut_by true c l ls b a h = same_lines _ _ _ _ (blank_cut c l b) (h a)
cut_by false c l ls b a h = let p = both_least c (indent l) (least_indent ls) a in same_lines _ _ _ _ (plain_cut c l p.0) (h p.1)

cut_same : (ls : List (List ℕ)) (c : ℕ) → AtMost c (least_indent ls) → cut_lines c ls ≡ map (λ (m : List ℕ). drop c m) ls
cut_same [] c a = refl
cut_same (l ∷ ls) c a = cut_by (is_blank_line l) c l ls refl a (cut_same ls c)

at_most_itself : (o : Option ℕ) → AtMost (unwrap_or o 0) o
unfolding AtMost
at_most_itself None = tt
at_most_itself (Some m) = omega arith

pub unindented_is : (ls : List (Bor (List ℕ))) → 0 < length ls
    → texts (take 1 ls) ++ cut_lines (common_indent (texts (drop 1 ls))) (texts (drop 1 ls)) ≡ unindent (texts ls)
unindented_is [] l = absurd (omega arith)
unindented_is (x ∷ xs) l = ap (λ ms. x.now ∷ ms) (cut_same (texts xs) (common_indent (texts xs)) (at_most_itself (least_indent (texts xs))))

-- one line more, cut
pub cut_more : (old new ls : List (Bor (List ℕ))) (front : List (List ℕ)) (c i : ℕ) (l d : Bor (List ℕ)) → i < length ls → new ≡ old ++ l ∷ []
    → l.now ≡ drop (min c (indent (get_or ls i d).now)) (get_or ls i d).now → texts old ≡ front ++ cut_lines c (texts (take i ls)) → texts new ≡ front ++ cut_lines c (texts (take (i + 1) ls))
cut_more old new ls front c i l d lt n e w =
    let t = texts_taken ls i d lt in
    let m : cut_lines c (texts (take i ls) ++ (get_or ls i d).now ∷ []) ≡ cut_lines c (texts (take i ls)) ++ (drop (min c (indent (get_or ls i d).now)) (get_or ls i d).now) ∷ []
    = map-append (λ (m : List ℕ). drop (min c (indent m)) m) (texts (take i ls)) ((get_or ls i d).now ∷ []) in
    rw (n, texts_push old l, e, w, t, m) (append_assoc front (cut_lines c (texts (take i ls))) _)

-- ---- blank lines at the end

pub filled_more : (ls : List (Bor (List ℕ))) (n : ℕ) (d : Bor (List ℕ)) → 0 < n → n ≤ length ls → is_blank_line (get_or ls (n - 1) d).now ≡ true
    → n + suffix_len is_blank_line (texts ls) ≡ length (texts ls) + suffix_len is_blank_line (take n (texts ls))
    → n - 1 + suffix_len is_blank_line (texts ls) ≡ length (texts ls) + suffix_len is_blank_line (take (n - 1) (texts ls))
filled_more ls n d p l b w =
    let e = text_at ls (n - 1) d (omega arith) in
    let s = suffix_len-take_yes is_blank_line (texts ls) n [] p (omega (arith, length-map ls (λ (x : Bor (List ℕ)). x.now))) (rw e b) in
    omega (arith, w, s)

pub filled_stop : (ls : List (Bor (List ℕ))) (n : ℕ) (d : Bor (List ℕ)) → 0 < n → n ≤ length ls → is_blank_line (get_or ls (n - 1) d).now ≡ false
    → n + suffix_len is_blank_line (texts ls) ≡ length (texts ls) + suffix_len is_blank_line (take n (texts ls)) → n ≡ length ls - suffix_len is_blank_line (texts ls)
filled_stop ls n d p l b w =
    let e = text_at ls (n - 1) d (omega arith) in
    let k = length-map ls (λ (x : Bor (List ℕ)). x.now) in
    let s = suffix_len-take_no is_blank_line (texts ls) n [] p (omega (arith, k)) (rw e b) in
    omega (arith, w, s, k)

-- ---- lines joined

pub join_push : (ls : List (List ℕ)) (l : List ℕ) → join_lines (ls ++ l ∷ []) ≡ cond (eqb (length ls) 0) (join_lines ls ++ l) (join_lines ls ++ 10 ∷ l)
join_push [] l = refl
join_push (m ∷ []) l = refl
join_push (m ∷ n ∷ ns) l =
    let e : eqb (suc (length ns)) 0 ≡ false = ne_eqb (suc (length ns)) 0 (λ q. absurd (omega (arith, q))) in
    let f : eqb (suc (suc (length ns))) 0 ≡ false = ne_eqb (suc (suc (length ns))) 0 (λ q. absurd (omega (arith, q))) in
    let h : join_lines (n ∷ ns ++ l ∷ []) ≡ join_lines (n ∷ ns) ++ 10 ∷ l = rw e at (join_push (n ∷ ns) l) in
    rw f (ap (λ x. m ++ 10 ∷ x) h ∙ sym (append_assoc m (10 ∷ join_lines (n ∷ ns)) (10 ∷ l)))

pub join_more : (ls : List (Bor (List ℕ))) (i : ℕ) (d : Bor (List ℕ)) (old new : List ℕ) → i < length ls → old ≡ join_lines (texts (take i ls))
    → new ≡ cond (eqb i 0) (old ++ (get_or ls i d).now) (old ++ 10 ∷ (get_or ls i d).now) → new ≡ join_lines (texts (take (i + 1) ls))
join_more ls i d old new l o n =
    let k : length (texts (take i ls)) ≡ i = length-map (take i ls) (λ (x : Bor (List ℕ)). x.now) ∙ length-take-le i ls (omega arith) in
    let j = join_push (texts (take i ls)) (get_or ls i d).now in
    rw (texts_taken ls i d l, j, k, ← o) n

-- ---- lines without those at both ends that are blank

texts_drop : (n : ℕ) (ls : List (Bor (List ℕ))) → texts (drop n ls) ≡ drop n (texts ls)
texts_drop zero ls = refl
texts_drop (suc n) [] = refl
texts_drop (suc n) (x ∷ xs) = texts_drop n xs

texts_take : (n : ℕ) (ls : List (Bor (List ℕ))) → texts (take n ls) ≡ take n (texts ls)
texts_take n ls = sym (take-map (λ (x : Bor (List ℕ)). x.now) n ls)

pub trims : (ls : List (Bor (List ℕ))) (s e : ℕ) → s ≡ prefix_len is_blank_line (texts ls) → e ≡ length (drop s ls) - suffix_len is_blank_line (texts (drop s ls))
    → texts (take e (drop s ls)) ≡ without_blank_end (without_blank_start (texts ls))
trims ls s e p q =
    let k : length (texts (drop s ls)) ≡ length (drop s ls) = length-map (drop s ls) (λ (x : Bor (List ℕ)). x.now) in
    let t : e ≡ length (texts (drop s ls)) - suffix_len is_blank_line (texts (drop s ls)) = omega (arith, q, k) in
    let w : without_blank_end (texts (drop s ls)) ≡ without_blank_end (without_blank_start (texts ls)) = ap (λ x. without_blank_end x) (texts_drop s ls ∙ ap (λ n. drop n (texts ls)) p) in
    texts_take e (drop s ls) ∙ ap (λ n. take n (texts (drop s ls))) t ∙ w

onto_some : (c : ℕ) (ls : List (List ℕ)) → 0 < length (onto_first c ls)
onto_some c [] = lit< tt
onto_some c (l ∷ ls) = omega arith

pub lines_some : (bs : List ℕ) → 0 < length (lines bs)
unfolding lines
lines_some [] = lit< tt
lines_some (c ∷ cs) = cond_both (ends_line c cs) ([] ∷ lines cs) _ (λ (ls : List (List ℕ)). 0 < length ls) (λ _. omega arith)
    (λ _. cond_both (eqb c 13) _ _ (λ (ls : List (List ℕ)). 0 < length ls) (λ _. lines_some cs) (λ _. onto_some c (lines cs)))

pub some_of : (ls : List (Bor (List ℕ))) (bs : List ℕ) → texts ls ≡ lines bs → 0 < length ls
some_of ls bs e = omega (arith, sym (length-map ls (λ (x : Bor (List ℕ)). x.now)) ∙ ap (λ x. length x) e, lines_some bs)
