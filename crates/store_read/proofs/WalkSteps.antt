-- The walk by groups and pointers as they are read is the walk by those that parts give.
use Rattle.std.proofs.Common.{◌≡◌, ℕ, Bool, true, false, cond, List, [], ◌∷◌, ◌++◌, map, length, Option, Some, None, refl, sym, ap, ◌∙◌}
use Rattle.plan_ir.specs.gql_plain.Tree.{Tree}
use Rattle.plan_ir.specs.ReaderMeaning.{ReaderPart, collect_reader}
use Rattle.plan_ir.specs.store_model.Items.{Form, typename, leaf, one, many, Group, Pointer, groups_at, pointers_on}
use Rattle.plan_ir.specs.store_model.Walks.{Fields, Shown, Trace, Next, fields_at, group_at, join_traces, looks_at, mark_members, mark_pointers, marks, object_at, pointer_at, pointers_at, read_key, with_found, with_value}
use Rattle.store_read.proofs.MemberSteps.{put_all-append}
use Rattle.store_read.proofs.MetSteps.{met_joined, met_still}
use Rattle.store_read.specs.Caching.{read_group, read_pointer}
use Rattle.store_read.specs.Meeting.{Meeting, met_onto}
use Rattle.store_read.specs.Members.{found_before, put_all}
use Rattle.store_read.specs.Walked.{body_or_scope, groups_met, groups_shown, object_read, pointers_met, pointers_shown}
use Rattle.plan_ir.specs.store_record.Keys.{Text}

found_put : (key : Text) (o : Option Tree) (rest : List (Text × Tree)) (end : Shown) → with_found key o (put_all rest end) ≡ put_all (found_before key o [] ++ rest) end
found_put key None rest end = refl
found_put key (Some t) rest end = refl

-- the field that is looked at is not in what was met
look_met : (m : Meeting) (f : Form) (id key : Text) → met_onto m (looks_at f id key) ≡ m
look_met m typename id key = met_still m
look_met m leaf id key = met_still m
look_met m (one b) id key = met_still m
look_met m (many b) id key = met_still m

marks_put : (owner id : Text) (ms : Shown) → mark_pointers owner id ms ≡ put_all (mark_members owner id ms) []
marks_put owner id [] = refl
marks_put owner id (m ∷ ms) = refl

module _ (next : ℕ → Next ReaderPart) (n : ℕ) (T id : Text) where
  groups_data : (fields : Fields) (end : Shown × Trace) (gs : List (Group ReaderPart))
      → (fields_at (next n) T id fields end gs).0 ≡ put_all (groups_shown next T fields (map (read_group n) gs)) end.0
  groups_data fields end [] = refl
  groups_data fields end (g ∷ gs) =
      ap (with_found g.first.ask.response (group_at (next n) T fields g).0) (groups_data fields end gs)
      ∙ found_put g.first.ask.response (group_at (next n) T fields g).0 (groups_shown next T fields (map (read_group n) gs)) end.0

  groups_trace : (fields : Fields) (end : Shown × Trace) (gs : List (Group ReaderPart)) (m : Meeting)
      → met_onto m (fields_at (next n) T id fields end gs).1 ≡ met_onto (met_onto m (groups_met next T fields (map (read_group n) gs))) end.1
  groups_trace fields end [] m = ap (λ x. met_onto x end.1) (sym (met_still m))
  groups_trace fields end (g ∷ gs) m =
      let look = looks_at g.first.ask.form id (read_key g.first.ask) in
      let here = (group_at (next n) T fields g).1 in
      let rest = (fields_at (next n) T id fields end gs).1 in
      let later = groups_met next T fields (map (read_group n) gs) in
      sym (met_joined m (join_traces look here) rest)
      ∙ ap (λ x. met_onto x rest) (sym (met_joined m look here) ∙ ap (λ x. met_onto x here) (look_met m g.first.ask.form id (read_key g.first.ask)))
      ∙ groups_trace fields end gs (met_onto m here)
      ∙ ap (λ x. met_onto x end.1) (met_joined m here later)

  pointer_data : (p : Pointer ReaderPart) (b : Bool)
      → (pointer_at (next n) T id p b).0 ≡ (body_or_scope (cond b [] p.scope) (next n (T ∷ []) (p.body ∷ []) id) b).0
  pointer_data p false = refl
  pointer_data p true = refl

  pointer_trace : (p : Pointer ReaderPart) (b : Bool) (m : Meeting)
      → met_onto m (pointer_at (next n) T id p b).1 ≡ met_onto m (body_or_scope (cond b [] p.scope) (next n (T ∷ []) (p.body ∷ []) id) b).1
  pointer_trace p false m = refl
  pointer_trace p true m = refl

  pointers_data : (ps : List (Pointer ReaderPart)) → (pointers_at (next n) T id ps).0 ≡ pointers_shown next (T ∷ []) id (map (read_pointer n) ps)
  pointers_data [] = refl
  pointers_data (p ∷ ps) = λ i. with_value p.fragment (pointer_data p p.inline i) (pointers_data ps i)

  pointers_trace : (ps : List (Pointer ReaderPart)) (m : Meeting)
      → met_onto m (pointers_at (next n) T id ps).1 ≡ met_onto m (pointers_met next (T ∷ []) id (map (read_pointer n) ps))
  pointers_trace [] m = refl
  pointers_trace (p ∷ ps) m =
      let here = (pointer_at (next n) T id p p.inline).1 in
      let read = (body_or_scope (cond p.inline [] p.scope) (next n (T ∷ []) (p.body ∷ []) id) p.inline).1 in
      let rest = (pointers_at (next n) T id ps).1 in
      let later = pointers_met next (T ∷ []) id (map (read_pointer n) ps) in
      sym (met_joined m here rest)
      ∙ ap (λ x. met_onto x rest) (pointer_trace p p.inline m)
      ∙ pointers_trace ps (met_onto m read)
      ∙ met_joined m read later

  module _ (owner : Text) (fields : Fields) (parts : List ReaderPart) where
    abbrev gs : List (Group ReaderPart)
    gs = groups_at collect_reader T parts

    abbrev ps : List (Pointer ReaderPart)
    ps = pointers_on collect_reader T parts

    pub object_data : (object_read next owner T (T ∷ []) id fields (map (read_group n) gs) (map (read_pointer n) ps)).0 ≡ (object_at collect_reader owner (next n) T parts id fields).0
    object_data =
        let shown = groups_shown next T fields (map (read_group n) gs) in
        let listed = pointers_shown next (T ∷ []) id (map (read_pointer n) ps) in
        put_all-append shown (mark_members owner id listed) []
        ∙ ap (put_all shown) (sym (marks_put owner id listed) ∙ ap (mark_pointers owner id) (sym (pointers_data ps)))
        ∙ sym (groups_data fields (marks owner id (pointers_at (next n) T id ps)) gs)

    pub object_trace : (m : Meeting)
        → met_onto m (object_read next owner T (T ∷ []) id fields (map (read_group n) gs) (map (read_pointer n) ps)).1 ≡ met_onto m (object_at collect_reader owner (next n) T parts id fields).1
    object_trace m =
        let met = groups_met next T fields (map (read_group n) gs) in
        sym (met_joined m met (pointers_met next (T ∷ []) id (map (read_pointer n) ps)))
        ∙ sym (pointers_trace ps (met_onto m met))
        ∙ sym (groups_trace fields (marks owner id (pointers_at (next n) T id ps)) gs m)

    pub object_stood : length (object_read next owner T (T ∷ []) id fields (map (read_group n) gs) (map (read_pointer n) ps)).1.seen ≡ length (object_at collect_reader owner (next n) T parts id fields).1.seen
    object_stood = ap (λ (x : Meeting). length x.seen) (object_trace (record { missing = false; seen = [] }))
