-- How properties and names are written and deleted commutes with the plain image.
use Rattle.std.proofs.Common.{◌≡◌, ℕ, List, true, false, not, Option, Some, None, is_some}
use Rattle.std.proofs.Common.{if◌then◌else◌, refl, ap, ◌∙◌}
use Rattle.std.specs.Option.{option_map, option_map_or}
use Rattle.js_value.specs.Image.{image}
use Rattle.js_value.specs.declared.value.ObjId.{ObjId}
use Rattle.js_value.specs.declared.value.Value.{Value}
use Rattle.js_value.specs.declared.value.Value.TheVariants as value
use Rattle.js_value.proofs.Images.{image-image}
use Rattle.js_heap.specs.Objects.{is_length, remove}
use Rattle.js_heap.specs.Puts.{put, refuses_at}
use Rattle.js_heap.specs.World.{World, object_at}
use Rattle.js_heap.specs.declared.class.ScopeId.{ScopeId}
use Rattle.js_host.specs.Images.{HostImages, RowsCommute, plain_object, plain_put, plain_world}
use Rattle.js_host.specs.Rows.{HostRows}
use Rattle.js_host.specs.declared.call.HostPut.{HostPut}
use Rattle.js_host.specs.declared.call.HostPut.TheVariants as host_put
use Rattle.js_reference.specs.Deletes.{delete, delete_image, delete_object, stays_at}
use Rattle.js_reference.specs.Errors.{thrown}
use Rattle.js_reference.specs.Errors.Answer.{Returns}
use Rattle.js_reference.specs.Hosted.{host_write, hosted}
use Rattle.js_reference.specs.Names.{after_scopes, assigned, write_name}
use Rattle.js_reference.specs.Own.{HostWrite, OwnProperties}
use Rattle.js_reference.specs.Own.HostWrite.{NotHost, Took, Refused}
use Rattle.js_reference.specs.Puts.{after_host, is_fixed, put_listed, window, write, write_image}
use Rattle.js_reference.specs.Puts.{write_object}
use Rattle.js_reference.specs.declared.error.ErrorName.TheVariants.{RangeError, TypeError}
use Rattle.js_plain.specs.Images.{OwnCommute, plain_answer, plain_write}
use Rattle.js_plain.specs.Operations.{OperationsCommute}
use Rattle.js_plain.proofs.Common.{get-map, if-ap, if-same, is_some-map, or-same}
use Rattle.js_plain.proofs.Objects.{put-plain, refuses_at-plain, remove-plain}
use Rattle.js_plain.proofs.Reading.{name_value-plain, property-plain, read-plain, read_name-plain}
use Rattle.js_plain.proofs.Reading.{thrown-plain}
use Rattle.js_plain.proofs.Scopes.{scopes-plain}
use Rattle.js_plain.proofs.Tables.{is_length-plain}

stays-plain : (w : World) (o : ObjId) (x : List ℕ) → stays_at
    (plain_world w) o x ≡ stays_at w o x
stays-plain w o x =
    ap (λ k. option_map_or (λ k. is_length k.class x) k false)
    (get-map plain_object w.objects o.number)
    ∙ or-same plain_object (λ k. is_length k.class x) (λ k. is_length k.class x) false
    (λ k. is_length-plain k.class x) (object_at w o)

assigned-plain : (w : World) (s : Option ScopeId) (x : List ℕ) (v : Value)
    → assigned (plain_world w) s x (image v) ≡ option_map plain_world (assigned w s x v)
assigned-plain w None x v = refl
assigned-plain w (Some s) x v = scopes-plain.assign w s x v

module _ {H : Type 0} (g : H → H) where
  put_listed-plain : (w : World) (h : H) (o : ObjId) (x : List ℕ) (v : Value)
      → put_listed (plain_world w) (g h) o x (image v) ≡ plain_answer g (put_listed w h o x v)
  put_listed-plain w h o x v =
      if-same _ _ _ _ _ _ (refuses_at-plain w.objects o.number x v) (thrown-plain g RangeError w h)
      (ap (λ u. Returns (image v) u (g h)) (put-plain w o x v true))
      ∙ if-ap (plain_answer g) (refuses_at w.objects o.number x v) (thrown RangeError w h)
      (Returns v (put w o x v true) h)

  after_host-plain : (w : World) (h : H) (o : ObjId) (x : List ℕ) (v : Value) (p : HostWrite H)
      → after_host (plain_world w) (g h) o x (image v) (plain_write g p)
      ≡ plain_answer g (after_host w h o x v p)
  after_host-plain w h o x v NotHost = put_listed-plain w h o x v
  after_host-plain w h o x v (Took w' h') = refl
  after_host-plain w h o x v (Refused e w' h') = refl

  module _ (O : OwnProperties H) (own : OwnCommute g O) where
    write_object-plain : (w : World) (h : H) (o : ObjId) (x : List ℕ) (v : Value)
        → write_object O (plain_world w) (g h) o x (image v) ≡ plain_answer g
        (write_object O w h o x v)
    write_object-plain w h o x v =
        ap (λ a. if is_fixed o x then Returns (image v) (plain_world w) (g h) else a)
        (ap (after_host (plain_world w) (g h) o x (image v)) (own.put w h o x v)
        ∙ after_host-plain w h o x v (O.put w h o x v))
        ∙ if-ap (plain_answer g) (is_fixed o x) (Returns v w h) (after_host w h o x v
        (O.put w h o x v))

    write_image-plain : (w : World) (h : H) (u : Value) (x : List ℕ) (v : Value)
        → write_image O (plain_world w) (g h) u x (image v) ≡ plain_answer g
        (write_image O w h u x v)
    write_image-plain w h value.Undefined x v = thrown-plain g TypeError w h
    write_image-plain w h value.Null x v = thrown-plain g TypeError w h
    write_image-plain w h (value.Ref o) x v = write_object-plain w h o x v
    write_image-plain w h (value.Bool b) x v = refl
    write_image-plain w h (value.Num n) x v = refl
    write_image-plain w h (value.Text t) x v = refl
    write_image-plain w h (value.Native n) x v = refl
    write_image-plain w h (value.Wrap k c) x v = refl

    write-plain : (w : World) (h : H) (u : Value) (x : List ℕ) (v : Value)
        → write O (plain_world w) (g h) (image u) x (image v) ≡ plain_answer g
        (write O w h u x v)
    write-plain w h u x v =
        ap (λ t. write_image O (plain_world w) (g h) t x (image v)) (image-image u)
        ∙ write_image-plain w h (image u) x v

    after_scopes-plain : (w : World) (h : H) (x : List ℕ) (v : Value) (o : Option World)
        → after_scopes O (plain_world w) (g h) x (image v) (option_map plain_world o)
        ≡ plain_answer g (after_scopes O w h x v o)
    after_scopes-plain w h x v (Some u) = refl
    after_scopes-plain w h x v None = write_object-plain w h window x v

    write_name-plain : (w : World) (h : H) (s : Option ScopeId) (x : List ℕ) (v : Value)
        → write_name O (plain_world w) (g h) s x (image v) ≡ plain_answer g
        (write_name O w h s x v)
    write_name-plain w h s x v =
        ap (after_scopes O (plain_world w) (g h) x (image v)) (assigned-plain w s x v)
        ∙ after_scopes-plain w h x v (assigned w s x v)

    delete_object-plain : (w : World) (h : H) (o : ObjId) (x : List ℕ)
        → delete_object O (plain_world w) (g h) o x ≡ plain_answer g (delete_object O w h o x)
    delete_object-plain w h o x =
        if-same _ _ _ _ _ _ (ap is_some (own.get w h o x) ∙ is_some-map image
        (O.get w h o x)) refl
        (ap (λ b. Returns (value.Bool (not b)) (remove (plain_world w) o x) (g h))
        (stays-plain w o x)
        ∙ ap (λ u. Returns (value.Bool (not (stays_at w o x))) u (g h)) (remove-plain w o x))
        ∙ if-ap (plain_answer g) (is_some (O.get w h o x)) (Returns (value.Bool true) w h)
        (Returns (value.Bool (not (stays_at w o x))) (remove w o x) h)

    delete_image-plain : (w : World) (h : H) (v : Value) (x : List ℕ)
        → delete_image O (plain_world w) (g h) v x ≡ plain_answer g (delete_image O w h v x)
    delete_image-plain w h value.Undefined x = thrown-plain g TypeError w h
    delete_image-plain w h value.Null x = thrown-plain g TypeError w h
    delete_image-plain w h (value.Ref o) x = delete_object-plain w h o x
    delete_image-plain w h (value.Bool b) x = refl
    delete_image-plain w h (value.Num n) x = refl
    delete_image-plain w h (value.Text t) x = refl
    delete_image-plain w h (value.Native n) x = refl
    delete_image-plain w h (value.Wrap k c) x = refl

    delete-plain : (w : World) (h : H) (v : Value) (x : List ℕ)
        → delete O (plain_world w) (g h) (image v) x ≡ plain_answer g (delete O w h v x)
    delete-plain w h v x =
        ap (λ u. delete_image O (plain_world w) (g h) u x) (image-image v)
        ∙ delete_image-plain w h
        (image v) x

    pub operations-plain : OperationsCommute g O
    operations-plain = record {
      thrown = thrown-plain g;
      property = property-plain g O own;
      read = read-plain g O own;
      write = write-plain;
      delete = delete-plain;
      name_value = name_value-plain g O own;
      read_name = read_name-plain g O own;
      write_name = write_name-plain;
    }

-- A lawful host's own properties commute.

host_write-plain : {H : Type 0} (g : H → H) (p : HostPut) (w : World) (h : H)
    → host_write (plain_put p) (plain_world w) (g h) ≡ plain_write g (host_write p w h)
host_write-plain g host_put.NotHost w h = refl
host_write-plain g host_put.Put w h = refl
host_write-plain g (host_put.Throw v) w h = refl
host_write-plain g host_put.NoMemory w h = refl

pub hosted-plain : {H D : Type 0} (R : HostRows H D) (I : HostImages H D) → RowsCommute I R
    → OwnCommute I.host (hosted R)
hosted-plain R I commute = record {
  get = commute.get_own;
  put = λ w h o x v.
      ap (λ r. host_write r.0 r.1 r.2) (commute.put_own w h o x v)
      ∙ (let r = R.put_own w h o x v in host_write-plain I.host r.0 r.1 r.2);
  sets_handler = commute.is_handler;
}
