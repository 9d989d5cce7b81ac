-- Parts whose items differ by one join are alike at every depth.
use Rattle.std.proofs.Common.{◌≡◌, ℕ, zero, suc, List, [], ◌∷◌, ◌++◌, map, refl, sym, ap, ◌∙◌, subst, append_assoc}
use Rattle.std.specs.List.{AllZip}
use Rattle.store_model.proofs.Merged.{NoneOf, joining, group_itself_as}
use Rattle.store_model.specs.Alike.{Related, AlikeGroup, AlikePointer, Alike}
use Rattle.store_model.specs.Items.{Asked, Pointer, Item, asked, pointed, asked_of, groups_of, grouped_onto, without, pointers, Collect, collect_all, groups_at, pointers_on}
use Rattle.store_record.specs.Keys.{Text}

pointer_itself : {F : Type 0} (r : Related F F) (whole : (types : List Text) (fs : List F) → r types fs fs) (T : Text) (ps : List (Pointer F)) → AllZip (AlikePointer r T) ps ps
pointer_itself r whole T [] = tt
pointer_itself r whole T (p ∷ ps) = (record { fragment = refl; scope = refl; inline = refl; body = λ h. whole (T ∷ []) (p.body ∷ []) }, pointer_itself r whole T ps)

module _ {F : Type 0} (collect : Collect F) where
  mutual
    pub alike_itself : (n : ℕ) (types : List Text) (fs : List F) → Alike collect collect n types fs fs
    alike_itself zero types fs = tt
    alike_itself (suc n) types fs = λ T here. record {
      groups = group_itself_as (Alike collect collect n) (alike_itself n) (groups_at collect T fs);
      pointers = pointer_itself (Alike collect collect n) (alike_itself n) T (pointers_on collect T fs);
    }

  -- parts that give the same items are alike
  pub alike_items : (n : ℕ) (types : List Text) (fs gs : List F) → ((T : Text) → collect_all collect T fs ≡ collect_all collect T gs) → Alike collect collect n types fs gs
  alike_items zero types fs gs e = tt
  alike_items (suc n) types fs gs e = λ T here.
      let same = alike_itself (suc n) types fs T here in
      record {
        groups = subst (λ xs. AllZip (AlikeGroup (Alike collect collect n)) (groups_at collect T fs) (groups_of xs)) (e T) same.groups;
        pointers = subst (λ xs. AllZip (AlikePointer (Alike collect collect n) T) (pointers_on collect T fs) (pointers xs)) (e T) same.pointers;
      }

  asked_append : (xs ys : List (Item F)) → asked_of (xs ++ ys) ≡ asked_of xs ++ asked_of ys
  asked_append [] ys = refl
  asked_append (asked a ∷ xs) ys = ap (λ us. a ∷ us) (asked_append xs ys)
  asked_append (pointed p ∷ xs) ys = asked_append xs ys

  -- a field among items is no pointer
  pointers_past : (xs ys : List (Item F)) (a c : Asked F) → pointers (xs ++ asked a ∷ ys) ≡ pointers (xs ++ asked c ∷ ys)
  pointers_past [] ys a c = refl
  pointers_past (asked u ∷ xs) ys a c = pointers_past xs ys a c
  pointers_past (pointed p ∷ xs) ys a c = ap (λ ps. p ∷ without p.fragment ps) (pointers_past xs ys a c)

  pointers_less : (xs ys : List (Item F)) (b : Asked F) → pointers (xs ++ asked b ∷ ys) ≡ pointers (xs ++ ys)
  pointers_less [] ys b = refl
  pointers_less (asked u ∷ xs) ys b = pointers_less xs ys b
  pointers_less (pointed p ∷ xs) ys b = ap (λ ps. p ∷ without p.fragment ps) (pointers_less xs ys b)

  parts_append : (T : Text) (us vs : List (Asked F)) (others : List F) → collect_all collect T (map (λ u. u.part) (us ++ vs)) ≡ collect_all collect T (map (λ u. u.part) us) ++ collect_all collect T (map (λ u. u.part) vs)
  parts_append T [] vs others = refl
  parts_append T (u ∷ us) vs others =
      ap (λ xs. collect T u.part ++ xs) (parts_append T us vs others) ∙ sym (append_assoc (collect T u.part) (collect_all collect T (map (λ u. u.part) us)) (collect_all collect T (map (λ u. u.part) vs)))

  -- at a type, items that differ by one join of two fields whose parts give, together, what the one part gives
  pub join_at : (n : ℕ) (T : Text) (p q rest : List (Item F)) (a b c : Asked F) → a.ask ≡ c.ask → b.ask ≡ c.ask → NoneOf a.ask.response (asked_of q)
      → ((U : Text) → collect U c.part ≡ collect U a.part ++ collect U b.part)
      → AllZip (AlikeGroup (Alike collect collect n)) (groups_of (p ++ asked a ∷ (q ++ asked b ∷ rest))) (groups_of (p ++ asked c ∷ (q ++ rest)))
  join_at n T p q rest a b c e f none both =
      let left : asked_of (p ++ asked a ∷ (q ++ asked b ∷ rest)) ≡ asked_of p ++ a ∷ (asked_of q ++ b ∷ asked_of rest)
      = asked_append p (asked a ∷ (q ++ asked b ∷ rest)) ∙ ap (λ us. asked_of p ++ a ∷ us) (asked_append q (asked b ∷ rest)) in
      let right : asked_of (p ++ asked c ∷ (q ++ rest)) ≡ asked_of p ++ c ∷ (asked_of q ++ asked_of rest)
      = asked_append p (asked c ∷ (q ++ rest)) ∙ ap (λ us. asked_of p ++ c ∷ us) (asked_append q rest) in
      let r = Alike collect collect n in
      let join : (types : List Text) (before after : List (Asked F)) → r types (map (λ u. u.part) (before ++ a ∷ b ∷ after)) (map (λ u. u.part) (before ++ c ∷ after))
      = λ types before after. alike_items n types (map (λ u. u.part) (before ++ a ∷ b ∷ after)) (map (λ u. u.part) (before ++ c ∷ after)) (λ U.
      parts_append U before (a ∷ b ∷ after) []
      ∙ ap (λ xs. collect_all collect U (map (λ u. u.part) before) ++ xs)
      (sym (append_assoc (collect U a.part) (collect U b.part) (collect_all collect U (map (λ u. u.part) after))) ∙ ap (λ xs. xs ++ collect_all collect U (map (λ u. u.part) after)) (sym (both U)))
      ∙ sym (parts_append U before (c ∷ after) [])) in
      let zipped = joining r a b c e f (alike_itself n) join (asked_of p) (asked_of q) (asked_of rest) none in
      subst (λ us. AllZip (AlikeGroup r) (grouped_onto [] us) (grouped_onto [] (asked_of (p ++ asked c ∷ (q ++ rest))))) (sym left)
      (subst (λ vs. AllZip (AlikeGroup r) (grouped_onto [] (asked_of p ++ a ∷ (asked_of q ++ b ∷ asked_of rest))) (grouped_onto [] vs)) (sym right) zipped)

  pub join_pointers : (p q rest : List (Item F)) (a b c : Asked F) → pointers (p ++ asked a ∷ (q ++ asked b ∷ rest)) ≡ pointers (p ++ asked c ∷ (q ++ rest))
  join_pointers p q rest a b c =
      pointers_past p (q ++ asked b ∷ rest) a c ∙ ap pointers (sym (append_assoc p (asked c ∷ q) (asked b ∷ rest))) ∙ pointers_less (p ++ asked c ∷ q) rest b ∙ ap pointers (append_assoc p (asked c ∷ q) rest)
