-- The values of the language (GraphQL, October 2021, section 2.9).
use Rattle.std.specs.Prelude.{ℕ, ℤ, ◌+◌, Bool, List, [], ◌∷◌, max}

mutual
  -- a value: a variable (2.10), an Int (2.9.1), a String (2.9.4), a Boolean (2.9.3), null (2.9.5), the name
  -- of an Enum value (2.9.6), a List (2.9.7) or an Input Object (2.9.8)
  pub data Val : Type 0 where
    variable : List ℕ → Val
    int : ℤ → Val
    text : List ℕ → Val
    truth : Bool → Val
    null : Val
    enum : List ℕ → Val
    list : Vals → Val
    object : Members → Val

  -- values in written order
  pub data Vals : Type 0 where
    no_vals : Vals
    val : Val → Vals → Vals

  -- names and their values in written order: the fields of an Input Object
  pub data Members : Type 0 where
    no_members : Members
    member : List ℕ → Val → Members → Members

abbrev pub vals_of : List Val → Vals
vals_of [] = no_vals
vals_of (v ∷ vs) = val v (vals_of vs)

abbrev pub members_of : List (List ℕ × Val) → Members
members_of [] = no_members
members_of (m ∷ ms) = member m.0 m.1 (members_of ms)

-- how many lists and objects stand in one another
abbrev mutual
  pub val_depth : Val → ℕ
  val_depth (variable n) = 0
  val_depth (int n) = 0
  val_depth (text t) = 0
  val_depth (truth b) = 0
  val_depth null = 0
  val_depth (enum n) = 0
  val_depth (list vs) = vals_depth vs + 1
  val_depth (object ms) = members_depth ms + 1

  pub vals_depth : Vals → ℕ
  vals_depth no_vals = 0
  vals_depth (val v vs) = max (val_depth v) (vals_depth vs)

  pub members_depth : Members → ℕ
  members_depth no_members = 0
  members_depth (member n v ms) = max (val_depth v) (members_depth ms)
