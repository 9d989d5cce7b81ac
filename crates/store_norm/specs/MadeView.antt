-- The ids that are made for objects.
use Rattle.plan_ir.specs.store_model.Says.{Made}
use Rattle.store_norm.specs.declared.made.Place.{Place}
use Rattle.plan_ir.specs.store_record.Keys.{Text, client_id}

-- the ids that are made under the key of a place, by the place in a list
abbrev pub made_at : Place → Made
made_at p = client_id p.parent.now p.key.now

-- the id that is made for the object at a place
abbrev pub id_of : Place → Text
id_of p = client_id p.parent.now p.key.now p.index
