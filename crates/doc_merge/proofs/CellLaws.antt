-- What is kept of the fields that were put tells which later fields differ from one of them.
use Rattle.std.proofs.Common.{◌≡◌, Bool, true, false, true≢false, cond, not, ◌&&◌, ◌||◌, List, [], ◌∷◌, ◌++◌, Option, Some, None, refl, ap, sym, ◌∙◌}
use Rattle.std.specs.List.{filter, list_any}
use Rattle.doc_merge.proofs.Anys.{any-append, any_none, any_or, any_same, filter_any, or_assoc, or_false}
use Rattle.doc_merge.proofs.Either.{or_and}
use Rattle.doc_merge.proofs.Equals.{and_left, and_right, signature_steps, signature_turned}
use Rattle.doc_merge.specs.Cells.{Cell, Mark, are_like, differs, has_other, have_one, is_other, none_seen, others, put, with_mark}
use Rattle.doc_merge.specs.Joined.{same_parent, same_pattern}
use Rattle.doc_merge.specs.Paths.{Pattern, all_meet, faulty}
use Rattle.doc_merge.specs.Places.{wrong}
use Rattle.doc_merge.specs.Signatures.{Signature, same_signature}
use Rattle.plan_ir.specs.gql_ast.declared.place.FilePlace.{FilePlace}
use Rattle.plan_ir.proofs.gql_graph_laws.TextSteps.{same_text}
use Rattle.plan_ir.specs.schema_tables.Types.{Text}

-- ---- patterns

same_parent-sound : (a b : Option Text) → same_parent a b ≡ true → a ≡ b
same_parent-sound (Some a) (Some b) e = ap Some (same_text a b e)
same_parent-sound None None e = refl
same_parent-sound None (Some b) e = absurd (true≢false (sym e))
same_parent-sound (Some a) None e = absurd (true≢false (sym e))

pub same_pattern-sound : (as_ bs : Pattern) → same_pattern as_ bs ≡ true → as_ ≡ bs
same_pattern-sound [] [] e = refl
same_pattern-sound (a ∷ as_) (b ∷ bs) e =
    λ i. same_parent-sound a b (and_left (same_parent a b) (same_pattern as_ bs) e) i ∷ same_pattern-sound as_ bs (and_right (same_parent a b) (same_pattern as_ bs) e) i
same_pattern-sound [] (b ∷ bs) e = absurd (true≢false (sym e))
same_pattern-sound (a ∷ as_) [] e = absurd (true≢false (sym e))

-- ---- one field more

-- where two of three are like, the third is like both or neither
like_both : (a b c : Signature) → same_signature a b ≡ true → same_signature a c ≡ same_signature b c
like_both a b c e = on (same_signature a c) (same_signature b c) refl refl where
  on : (u v : Bool) → same_signature a c ≡ u → same_signature b c ≡ v → u ≡ v
  on true true f g = refl
  on false false f g = refl
  on true false f g = sym (signature_steps b a c (signature_turned a b e) f) ∙ g
  on false true f g = sym f ∙ signature_steps a b c e g

unlike_one : (a b c : Signature) → same_signature a b ≡ false → (not (same_signature a c) || not (same_signature b c)) ≡ true
unlike_one a b c e = on (same_signature a c) (same_signature b c) refl refl where
  on : (u v : Bool) → same_signature a c ≡ u → same_signature b c ≡ v → (not u || not v) ≡ true
  on true true f g = absurd (true≢false (sym (signature_steps a c b f (signature_turned b c g)) ∙ e))
  on true false f g = refl
  on false v f g = refl

-- a cell of the same pattern with a field more
cell_more : (c : Cell) (x y : Mark) → c.pattern ≡ x.pattern → is_other y (with_mark c x) ≡ (is_other y c || differs x y)
cell_more c x y e = on (same_signature c.first x.signature) refl where
  meets : all_meet c.pattern y.pattern ≡ all_meet x.pattern y.pattern
  meets = ap (λ (ps : Pattern). all_meet ps y.pattern) e

  like_parts : (m i s : Bool) → (m && ((i || false) || s)) ≡ ((m && (i || s)) || (m && s))
  like_parts true true s = refl
  like_parts true false true = refl
  like_parts true false false = refl
  like_parts false i s = refl

  unlike_parts : (m i s t : Bool) → (s || t) ≡ true → (m && ((i || true) || s)) ≡ ((m && (i || s)) || (m && t))
  unlike_parts true true s t h = refl
  unlike_parts true false s t h = sym h
  unlike_parts false i s t h = refl

  on : (b : Bool) → same_signature c.first x.signature ≡ b → is_other y (with_mark c x) ≡ (is_other y c || differs x y)
  on true f =
      (λ k. all_meet c.pattern y.pattern && ((c.is_mixed || not (f k)) || not (same_signature c.first y.signature)))
      ∙ like_parts (all_meet c.pattern y.pattern) c.is_mixed (not (same_signature c.first y.signature))
      ∙ (λ k. is_other y c || (meets k && not (like_both c.first x.signature y.signature f k)))
  on false f =
      (λ k. all_meet c.pattern y.pattern && ((c.is_mixed || not (f k)) || not (same_signature c.first y.signature)))
      ∙ unlike_parts (all_meet c.pattern y.pattern) c.is_mixed (not (same_signature c.first y.signature)) (not (same_signature x.signature y.signature)) (unlike_one c.first x.signature y.signature f)
      ∙ (λ k. is_other y c || (meets k && not (same_signature x.signature y.signature)))

pub or_last : (a b d : Bool) → ((a || b) || d) ≡ ((a || d) || b)
or_last true b d = refl
or_last false true true = refl
or_last false true false = refl
or_last false false d = sym (or_false d)

pub has_other_put : (cs : List Cell) (x y : Mark) → has_other (put cs x) y ≡ (has_other cs y || differs x y)
has_other_put [] x y = or_false (differs x y)
has_other_put (c ∷ cs) x y = on (same_pattern c.pattern x.pattern) refl (has_other_put cs x y) where
  on : (b : Bool) → same_pattern c.pattern x.pattern ≡ b → has_other (put cs x) y ≡ (has_other cs y || differs x y)
      → has_other (cond b (with_mark c x ∷ cs) (c ∷ put cs x)) y ≡ ((is_other y c || has_other cs y) || differs x y)
  on true e h = ap (λ b. b || has_other cs y) (cell_more c x y (same_pattern-sound c.pattern x.pattern e)) ∙ or_last (is_other y c) (differs x y) (has_other cs y)
  on false e h = ap (λ b. is_other y c || b) h ∙ sym (or_assoc (is_other y c) (has_other cs y) (differs x y))

-- ---- all fields

others_are : (p : FilePlace → Bool) (seen : Mark → Bool) (ms : List Mark)
    → list_any p (others seen ms) ≡ (list_any (λ (m : Mark). seen m && p m.place) ms || list_any (λ (m : Mark). p m.place) (faulty differs ms))
others_are p seen [] = refl
others_are p seen (m ∷ ms) =
    any-append p (wrong (seen m) m.place) (others (λ (y : Mark). seen y || differs m y) ms)
    ∙ (λ k. wrong_here (seen m) k || others_are p (λ (y : Mark). seen y || differs m y) ms k)
    ∙ ap (λ b. (seen m && p m.place) || (b || list_any (λ (y : Mark). p y.place) (faulty differs ms)))
    (any_same (λ (y : Mark). (seen y || differs m y) && p y.place) (λ (y : Mark). (seen y && p y.place) || (differs m y && p y.place)) (λ y. or_and (seen y) (differs m y) (p y.place)) ms
    ∙ any_or (λ (y : Mark). seen y && p y.place) (λ (y : Mark). differs m y && p y.place) ms)
    ∙ four (seen m && p m.place) (list_any (λ (y : Mark). seen y && p y.place) ms) (list_any (λ (y : Mark). differs m y && p y.place) ms) (list_any (λ (y : Mark). p y.place) (faulty differs ms))
    ∙ ap (λ b. ((seen m && p m.place) || list_any (λ (y : Mark). seen y && p y.place) ms) || b)
    (ap (λ b. b || list_any (λ (y : Mark). p y.place) (faulty differs ms)) (sym (filter_any (λ (y : Mark). p y.place) (differs m) ms))
    ∙ sym (any-append (λ (y : Mark). p y.place) (filter (differs m) ms) (faulty differs ms))) where
      wrong_here : (b : Bool) → list_any p (wrong b m.place) ≡ (b && p m.place)
      wrong_here true = or_false (p m.place)
      wrong_here false = refl

      four : (a b d e : Bool) → (a || ((b || d) || e)) ≡ ((a || b) || (d || e))
      four true b d e = refl
      four false b d e = or_assoc b d e

pub others_faulty : (p : FilePlace → Bool) (ms : List Mark) → list_any p (others none_seen ms) ≡ list_any (λ (m : Mark). p m.place) (faulty differs ms)
others_faulty p ms =
    others_are p none_seen ms
    ∙ ap (λ b. b || list_any (λ (m : Mark). p m.place) (faulty differs ms)) (any_none (λ (m : Mark). false) (λ m. refl) ms)

pub others_same : (f g : Mark → Bool) → ((m : Mark) → f m ≡ g m) → (ms : List Mark) → others f ms ≡ others g ms
others_same f g h [] = refl
others_same f g h (m ∷ ms) = λ k. wrong (h m k) m.place ++ others_same (λ (n : Mark). f n || differs m n) (λ (n : Mark). g n || differs m n) (λ n. ap (λ b. b || differs m n) (h n)) ms k

-- ---- where all have one name and the same arguments, none differs

none_differs : (first : Mark) (ms : List Mark) → are_like first ms ≡ true → (p : Mark → Bool) → list_any p (faulty differs ms) ≡ false
none_differs first [] e p = refl
none_differs first (m ∷ ms) e p =
    any-append p (filter (differs m) ms) (faulty differs ms)
    ∙ (λ k. (filter_any p (differs m) ms ∙ each_like ms (and_right (same_signature first.signature m.signature) (are_like first ms) e)) k
    || none_differs first ms (and_right (same_signature first.signature m.signature) (are_like first ms) e) p k) where
      like : same_signature first.signature m.signature ≡ true
      like = and_left (same_signature first.signature m.signature) (are_like first ms) e

      each_like : (ns : List Mark) → are_like first ns ≡ true → list_any (λ (y : Mark). differs m y && p y) ns ≡ false
      each_like [] f = refl
      each_like (n ∷ ns) f =
          λ k. none (all_meet m.pattern n.pattern) (same_signature m.signature n.signature) (p n) (sym (like_both first.signature m.signature n.signature like) ∙ and_left (same_signature first.signature n.signature) (are_like first ns) f) k
          || each_like ns (and_right (same_signature first.signature n.signature) (are_like first ns) f) k where
            none : (a s q : Bool) → s ≡ true → ((a && not s) && q) ≡ false
            none true s q g = ap (λ b. not b && q) g
            none false s q g = refl

pub one_differs_not : (p : FilePlace → Bool) (ms : List Mark) → have_one ms ≡ true → list_any p (others none_seen ms) ≡ false
one_differs_not p [] e = refl
one_differs_not p (m ∷ ms) e = others_faulty p (m ∷ ms) ∙ none_differs m (m ∷ ms) e (λ (y : Mark). p y.place)
