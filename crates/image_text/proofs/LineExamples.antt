-- A worked image.
use Rattle.std.proofs.Common.{◌≡◌, [], ◌∷◌, codes, Some, refl}
use Rattle.store_model.specs.gql_plain.declared.plain.Plain.TheVariants as P
use Rattle.serde_json.proofs.OnLiterals.{serde_json_on_literals}
use Rattle.std.specs.Fmt.{digits}
use Rattle.image_marks.specs.store_record.declared.field.Field.TheVariants.{Leaf, Link}
use Rattle.image_text.specs.Lines.{image_text}
use Rattle.image_text.specs.declared.image.Image.{Image}

sample : Image
sample = record {
  buffer = 10;
  lines = 2;
  marks = 0;
  whole = 0;
  records =
      (record { id = codes "4"; slot = Some (record { type_name = codes "User"; fields = (codes "id", Leaf (P.Text (codes "4"))) ∷ (codes "name", Leaf (P.Text (codes "Ann"))) ∷ [] }) })
      ∷ (record { id = codes "client:root"; slot = Some (record { type_name = codes "__Root"; fields = (codes "me", Link (codes "4")) ∷ [] }) }) ∷ [];
  layers = [];
  handles = (record { name = codes "h"; op = codes "Q"; vars = []; fresh = 0 }) ∷ [];
  released = [];
  watches = [];
  marked = [];
}

lines_of_sample : image_text sample
    ≡ codes "[\"image\",1,10,2,0,0]\n[\"record\",\"4\",\"User\"]\n[\"field\",\"id\",[\"leaf\",[\"'4\"]]]\n[\"field\",\"name\",[\"leaf\",[\"'Ann\"]]]\n[\"record\",\"client:root\",\"__Root\"]\n[\"field\",\"me\",[\"link\",\"4\"]]\n[\"handle\",\"h\",\"Q\",[\"{\",\"}\"],0]\n[\"end\"]\n"
unfolding sample image_text serde_json_on_literals digits
lines_of_sample = refl
