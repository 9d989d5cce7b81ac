-- Steps of what is made of the fields of groups.
use Rattle.std.proofs.Common.{◌≡◌, ℕ, zero, suc, ◌<◌, cond, List, [], ◌∷◌, ◌++◌, map, length, get_or, set, Option, Some, None, bytes_eq, refl, ap, sym, ◌∙◌, arith}
use mathlib.Core.Logic.{inl, inr}
use Rattle.std.proofs.lemmas.List.{append-nil, map-append}
use Rattle.plan_ir.proofs.gql_plain_laws.SortedTexts.{AreInOrder-sorted_texts}
use Rattle.plan_ir.specs.gql_plain.Order.{sorted_texts, AreInOrder}
use Rattle.plan_ir.specs.NormalMeaning.{Plan}
use Rattle.plan_groups.specs.FieldView.{ask_at, asked_at, plan_at}
use Rattle.plan_groups.specs.GroupView.{group_of}
use Rattle.plan_groups.proofs.PutSteps.{alone, place_new, put_new}
use Rattle.plan_groups.proofs.TextSteps.{sorted_last}
use Rattle.plan_groups.specs.Made.{AreKept, IsMade, with_handle, with_part}
use Rattle.plan_groups.specs.Putting.{place_of, put_at, with_other}
use Rattle.plan_groups.specs.declared.field.FieldAt.{FieldAt}
use Rattle.plan_groups.specs.declared.field.PlanAt.{PlanAt}
use Rattle.plan_ir.specs.schema_tables.Types.{Text}
use Rattle.plan_ir.specs.store_model.Items.{Ask, Asked, Group, asks, handle_of, key_of, members, parts, with_asked}
use Rattle.plan_ir.specs.store_model.Says.{handles, some_text}

-- ---- what stands below

-- that of one field alone
pub one_part : (f : FieldAt) (fs : List FieldAt) → fs ≡ [] → plan_at f.part ∷ [] ≡ plan_at f.part ∷ map (λ (a : Asked Plan). a.part) (map asked_at fs)
one_part f fs none = ap (λ (gs : List FieldAt). plan_at f.part ∷ map (λ (a : Asked Plan). a.part) (map asked_at gs)) (sym none)

-- where there are several
pub kept_parts : (g : Group Plan) (ps : List Plan) → (g.others ≡ [] → ⊥) → AreKept g ps → ps ≡ parts g
kept_parts g ps some (inl none) = absurd (some none.0)
kept_parts g ps some (inr kept) = kept

pub no_others : (fs : List FieldAt) → map asked_at fs ≡ [] → fs ≡ []
no_others [] e = refl
no_others (f ∷ fs) e = cc

-- of the first field and of the second one
pub part_first : (ps qs rs : List PlanAt) (f p : PlanAt) → ps ≡ [] → qs ≡ ps ++ f ∷ [] → rs ≡ qs ++ p ∷ [] → map plan_at rs ≡ with_part (map plan_at ps) (plan_at f) (plan_at p)
part_first ps qs rs f p none one two =
    ap (map plan_at) (two ∙ ap (λ (xs : List PlanAt). xs ++ p ∷ []) (one ∙ ap (λ (xs : List PlanAt). xs ++ f ∷ []) none))
    ∙ sym (ap (λ (xs : List PlanAt). with_part (map plan_at xs) (plan_at f) (plan_at p)) none)

-- of one field more
pub part_more : (ps qs : List PlanAt) (f p : PlanAt) → (ps ≡ [] → ⊥) → qs ≡ ps ++ p ∷ [] → map plan_at qs ≡ with_part (map plan_at ps) (plan_at f) (plan_at p)
part_more [] qs f p some e = absurd (some refl)
part_more (x ∷ ps) qs f p some e = ap (map plan_at) e ∙ map-append plan_at (x ∷ ps) (p ∷ [])

parts_more : (g : Group Plan) (a : Asked Plan) (ps : List Plan) → AreKept g ps → with_part ps g.first.part a.part ≡ parts (with_other g a)
parts_more g a ps (inl none) =
    ap (λ (qs : List Plan). with_part qs g.first.part a.part) none.1
    ∙ sym (ap (λ (others : List (Asked Plan)). g.first.part ∷ map (λ (b : Asked Plan). b.part) (others ++ a ∷ [])) none.0)
parts_more g a ps (inr kept) =
    ap (λ (qs : List Plan). with_part qs g.first.part a.part) kept
    ∙ ap (λ (qs : List Plan). g.first.part ∷ qs) (sym (map-append (λ (b : Asked Plan). b.part) g.others (a ∷ [])))

-- ---- the keys of connections

some_text-behind : (o : Option Text) (ts us : List Text) → some_text o (ts ++ us) ≡ some_text o ts ++ us
some_text-behind None ts us = refl
some_text-behind (Some t) ts us = refl

handles_last : (xs : List Ask) (y : Ask) → handles (xs ++ y ∷ []) ≡ handles xs ++ some_text (handle_of y) []
handles_last [] y = refl
handles_last (x ∷ xs) y = ap (some_text (handle_of x)) (handles_last xs y) ∙ some_text-behind (handle_of x) (handles xs) (some_text (handle_of y) [])

with_last : (o : Option Text) (ts : List Text) → with_handle o (sorted_texts ts) ≡ sorted_texts (ts ++ some_text o [])
with_last None ts = ap sorted_texts (sym (append-nil ts))
with_last (Some t) ts = sorted_last t ts

handles_more : (g : Group Plan) (a : Asked Plan) (keys : List Text) → keys ≡ sorted_texts (handles (asks g)) → with_handle (handle_of a.ask) keys ≡ sorted_texts (handles (asks (with_other g a)))
handles_more g a keys e =
    ap (with_handle (handle_of a.ask)) e
    ∙ with_last (handle_of a.ask) (handles (asks g))
    ∙ sym (ap sorted_texts (ap handles (map-append (λ (b : Asked Plan). b.ask) (members g) (a ∷ [])) ∙ handles_last (asks g) a.ask))

-- that of one field alone
handles_one : (o : Option Text) → some_text o [] ≡ sorted_texts (some_text o [])
handles_one None = refl
handles_one (Some t) = refl

-- the keys of a group are in byte order
pub handles_in_order : (g : Group Plan) (ps : List Plan) (key : Text) (keys : List Text) → IsMade g ps key keys → AreInOrder keys
handles_in_order g ps key keys made = rw made.linked (AreInOrder-sorted_texts (handles (asks g)))

-- ---- groups

pub made_one : (f : FieldAt) (others : List FieldAt) (ps : List PlanAt) (key : Text) (keys : List Text) (o : Option Text) → others ≡ [] → ps ≡ [] → key ≡ key_of (ask_at f) → o ≡ handle_of (ask_at f)
    → keys ≡ some_text o [] → IsMade (group_of f others) (map plan_at ps) key keys
made_one f others ps key keys o none empty stored handle linked = record {
  below = inl (ap (map asked_at) none, ap (map plan_at) empty);
  stored = stored;
  linked =
      linked
      ∙ ap (λ (h : Option Text). some_text h []) handle
      ∙ handles_one (handle_of (ask_at f))
      ∙ sym (ap (λ (fs : List FieldAt). sorted_texts (handles (asks (group_of f fs)))) none);
}

-- a field behind those of the group
pub grown : (first f : FieldAt) (others more : List FieldAt) → more ≡ others ++ f ∷ [] → group_of first more ≡ with_other (group_of first others) (asked_at f)
grown first f others more e = ap (group_of first) e ∙ (λ i. record { first = asked_at first; others = map-append asked_at others (f ∷ []) i })

pub made_more : (first f : FieldAt) (others more : List FieldAt) (ps qs : List PlanAt) (key : Text) (keys new : List Text) (o : Option Text) → IsMade (group_of first others) (map plan_at ps) key keys
    → more ≡ others ++ f ∷ [] → map plan_at qs ≡ with_part (map plan_at ps) (plan_at first.part) (plan_at f.part) → o ≡ handle_of (ask_at f) → new ≡ with_handle o keys
    → IsMade (group_of first more) (map plan_at qs) key new
made_more first f others more ps qs key keys new o made longer below handle linked =
    let old : Group Plan = group_of first others in
    let same : with_other old (asked_at f) ≡ group_of first more = sym (grown first f others more longer) in
    record {
      below = inr (below ∙ parts_more old (asked_at f) (map plan_at ps) made.below ∙ ap parts same);
      stored = made.stored;
      linked =
          linked
          ∙ ap (λ (h : Option Text). with_handle h keys) handle
          ∙ handles_more old (asked_at f) keys made.linked
          ∙ ap (λ (g : Group Plan). sorted_texts (handles (asks g))) same;
    }

-- lists that are equal stand for the same
pub made_same : (first : FieldAt) (others more : List FieldAt) (ps qs : List PlanAt) (key : Text) (keys new : List Text) → IsMade (group_of first others) (map plan_at ps) key keys → more ≡ others → qs ≡ ps
    → new ≡ keys → IsMade (group_of first more) (map plan_at qs) key new
made_same first others more ps qs key keys new made longer below linked = rw (longer, below, linked) made

-- ---- a field behind those of its group

pub put_behind_is : (gs : List (Group Plan)) (i : ℕ) (g h : Group Plan) (a : Asked Plan) → i < length gs → g ≡ get_or gs i g → h ≡ with_other g a → set gs i h ≡ put_at i gs a
put_behind_is [] i g h a low is e = absurd (omega arith)
put_behind_is (x ∷ gs) zero g h a low is e = ap (λ (y : Group Plan). y ∷ gs) (e ∙ ap (λ (y : Group Plan). with_other y a) is)
put_behind_is (x ∷ gs) (suc i) g h a low is e = ap (λ (ys : List (Group Plan)). x ∷ ys) (put_behind_is gs i g h a (omega arith) is e)

-- ---- a field of a new response key

pub placed_at : (gs : List (Group Plan)) (k r : Text) (found there : Option ℕ) → k ≡ r → found ≡ place_of gs k → found ≡ there → place_of gs r ≡ there
placed_at gs k r found there e f g = ap (place_of gs) (sym e) ∙ sym f ∙ g

module _ (gs all : List (Group Plan)) (a : Asked Plan) (new : Group Plan) (is_alone : new ≡ alone a) (pushed : all ≡ gs ++ new ∷ []) (unplaced : place_of gs a.ask.response ≡ None) where
  one_more : all ≡ gs ++ alone a ∷ []
  one_more = pushed ∙ ap (λ (g : Group Plan). gs ++ g ∷ []) is_alone

  pub put_new_is : all ≡ with_asked gs a
  put_new_is = one_more ∙ sym (put_new gs a unplaced)

  -- its place is known
  pub placed_new : (k n : Text) (count : ℕ) (old now : Option ℕ) → k ≡ a.ask.response → count ≡ length gs → old ≡ place_of gs n → now ≡ cond (bytes_eq k n) (Some count) old → now ≡ place_of all n
  placed_new k n count old now key counted was is =
      is
      ∙ (λ i. cond (bytes_eq (key i) n) (Some (counted i)) (was i))
      ∙ place_new gs a n unplaced
      ∙ ap (λ (hs : List (Group Plan)). place_of hs n) (sym one_more)

-- ---- the key of one step

pub only_key : (k j : Option Text) → k ∷ [] ≡ j ∷ [] → k ≡ j
only_key k j e = cc
