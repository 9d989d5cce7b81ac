-- What is written part by part is the whole.
use Rattle.std.proofs.Common.{◌≡◌, codes, List, [], ◌∷◌, ◌++◌, Option, Some, None, append_assoc, append-nil, refl, sym, ap, ◌∙◌}
use Rattle.plan_ir.specs.gql_plain.ToJson.{members_tokens, tree_tokens, trees_tokens}
use Rattle.plan_ir.specs.gql_plain.Tree.{Tree, members_of, trees_of}
use Rattle.json.specs.Token as token
use Rattle.json.specs.Token.{Token}
use Rattle.plan_order.specs.Walk.{found_member}
use Rattle.plan_ir.specs.store_model.Walks.{Shown, mark_members, or_null, shown_object}
use Rattle.store_show.specs.Showing.{elements_tokens, identity, lead_of, led, pairs_tokens}
use Rattle.store_show.specs.declared.lead.Lead.{Lead}
use Rattle.store_show.specs.declared.lead.Lead.TheVariants.{Member, Alone}
use Rattle.plan_ir.specs.store_record.Keys.{Text}

pub then_two : (a b c x y w : List Token) → b ≡ a ++ x → c ≡ b ++ y → x ++ y ≡ w → c ≡ a ++ w
then_two a b c x y w first second whole = second ∙ ap (λ ts. ts ++ y) first ∙ append_assoc a x y ∙ ap (λ ts. a ++ ts) whole

pub pairs-append : (ms ns : List (Text × Tree)) → pairs_tokens (ms ++ ns) ≡ pairs_tokens ms ++ pairs_tokens ns
pairs-append [] ns = refl
pairs-append (m ∷ ms) ns =
    ap (λ ts. token.key m.0 ∷ (tree_tokens m.1 ++ ts)) (pairs-append ms ns)
    ∙ ap (λ ts. token.key m.0 ∷ ts) (sym (append_assoc (tree_tokens m.1) (pairs_tokens ms) (pairs_tokens ns)))

-- the members of an object, and its closing bracket
pub object_closed : (ms : List (Text × Tree)) → members_tokens (members_of ms) ≡ pairs_tokens ms ++ token.end_object ∷ []
object_closed [] = refl
object_closed (m ∷ ms) =
    ap (λ ts. token.key m.0 ∷ (tree_tokens m.1 ++ ts)) (object_closed ms)
    ∙ ap (λ ts. token.key m.0 ∷ ts) (sym (append_assoc (tree_tokens m.1) (pairs_tokens ms) (token.end_object ∷ [])))

-- the elements of a list, and its closing bracket
pub list_closed : (es : List Tree) → trees_tokens (trees_of es) ≡ elements_tokens es ++ token.end_array ∷ []
list_closed [] = refl
list_closed (t ∷ ts) = ap (λ us. tree_tokens t ++ us) (list_closed ts) ∙ sym (append_assoc (tree_tokens t) (elements_tokens ts) (token.end_array ∷ []))

-- an object between its brackets
pub object_written : (a b c d : List Token) (ms : List (Text × Tree)) → b ≡ a ++ token.begin_object ∷ [] → c ≡ b ++ pairs_tokens ms → d ≡ c ++ token.end_object ∷ [] → d ≡ a ++ tree_tokens (shown_object ms)
object_written a b c d ms open_ members close =
    then_two a c d (token.begin_object ∷ pairs_tokens ms) (token.end_object ∷ []) (tree_tokens (shown_object ms))
    (then_two a b c (token.begin_object ∷ []) (pairs_tokens ms) (token.begin_object ∷ pairs_tokens ms) open_ members refl) close
    (ap (λ ts. token.begin_object ∷ ts) (sym (object_closed ms)))

-- a list between its brackets
pub list_written : (a b c d : List Token) (es : List Tree) → b ≡ a ++ token.begin_array ∷ [] → c ≡ b ++ elements_tokens es → d ≡ c ++ token.end_array ∷ [] → d ≡ a ++ token.begin_array ∷ trees_tokens (trees_of es)
list_written a b c d es open_ elements close =
    then_two a c d (token.begin_array ∷ elements_tokens es) (token.end_array ∷ []) (token.begin_array ∷ trees_tokens (trees_of es))
    (then_two a b c (token.begin_array ∷ []) (elements_tokens es) (token.begin_array ∷ elements_tokens es) open_ elements refl) close
    (ap (λ ts. token.begin_array ∷ ts) (sym (list_closed es)))

-- ---- values where they are led to

pub led_alone : (o : Option Tree) → led Alone o ≡ tree_tokens (or_null o)
led_alone None = refl
led_alone (Some t) = refl

pub led_member : (lead : Lead) (key : Text) (o : Option Tree) → lead_of lead ≡ token.key key ∷ [] → led lead o ≡ pairs_tokens (found_member key o)
led_member (Member k) key None is = refl
led_member (Member k) key (Some t) is = ap (λ ts. ts ++ tree_tokens t) is ∙ ap (λ ts. token.key key ∷ ts) (sym (append-nil (tree_tokens t)))
led_member Alone key o is = cc

-- a member alone
pub member_written : (a b c : List Token) (key : Text) (t : Tree) → b ≡ a ++ token.key key ∷ [] → c ≡ b ++ tree_tokens t → c ≡ a ++ pairs_tokens ((key, t) ∷ [])
member_written a b c key t first second =
    then_two a b c (token.key key ∷ []) (tree_tokens t) (pairs_tokens ((key, t) ∷ [])) first second (ap (λ ts. token.key key ∷ ts) (sym (append-nil (tree_tokens t))))

-- ---- what a record with pointers tells beside its fields

pub marks_told : (owner id : Text) (m : Text × Tree) (ms : Shown) → token.key (codes "__fragments") ∷ (tree_tokens (shown_object (m ∷ ms)) ++ identity owner id) ≡ pairs_tokens (mark_members owner id (m ∷ ms))
marks_told owner id m ms = refl

module _ (owner id : Text) (a b c d e f : List Token) (m : Text × Tree) (ms : Shown) where
  pub marks_written : b ≡ a ++ token.key (codes "__fragments") ∷ [] → c ≡ b ++ token.begin_object ∷ [] → d ≡ c ++ pairs_tokens (m ∷ ms) → e ≡ d ++ token.end_object ∷ [] → f ≡ e ++ identity owner id
      → f ≡ a ++ pairs_tokens (mark_members owner id (m ∷ ms))
  marks_written key open_ members close rest =
      then_two a e f (token.key (codes "__fragments") ∷ tree_tokens (shown_object (m ∷ ms))) (identity owner id) (pairs_tokens (mark_members owner id (m ∷ ms)))
      (then_two a b e (token.key (codes "__fragments") ∷ []) (tree_tokens (shown_object (m ∷ ms))) (token.key (codes "__fragments") ∷ tree_tokens (shown_object (m ∷ ms))) key
      (object_written b c d e (m ∷ ms) open_ members close) refl) rest (marks_told owner id m ms)

-- the id of a record and the name of its owner
pub identity_written : (owner id : Text) (a b c d e : List Token) → b ≡ a ++ token.key (codes "__id") ∷ [] → c ≡ b ++ token.string id ∷ [] → d ≡ c ++ token.key (codes "__owner") ∷ [] → e ≡ d ++ token.string owner ∷ []
    → e ≡ a ++ identity owner id
identity_written owner id a b c d e first second third fourth =
    then_two a c e (token.key (codes "__id") ∷ token.string id ∷ []) (token.key (codes "__owner") ∷ token.string owner ∷ []) (identity owner id)
    (then_two a b c (token.key (codes "__id") ∷ []) (token.string id ∷ []) (token.key (codes "__id") ∷ token.string id ∷ []) first second refl)
    (then_two c d e (token.key (codes "__owner") ∷ []) (token.string owner ∷ []) (token.key (codes "__owner") ∷ token.string owner ∷ []) third fourth refl) refl
