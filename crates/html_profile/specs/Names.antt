-- What the names and attributes of elements say.
use Rattle.std.specs.Prelude.{ℕ, Bool, true, ◌&&◌, ◌||◌, List, [], ◌∷◌, codes, Option, Some, None, if◌then◌else◌}
use Rattle.std.specs.List.{list_any}
use Rattle.std.specs.Str.{bytes_eq}
use Rattle.html_profile.specs.Marks.{lower}
use Rattle.html_profile.specs.declared.tag.Attribute.{Attribute}

-- the elements without an end tag (13.1.2, "Void elements", and `param`, which 13.2.6.4.7 closes at
-- once too)
abbrev pub void_names : List (List ℕ)
void_names =
    codes "area" ∷ codes "base" ∷ codes "br" ∷ codes "col" ∷ codes "embed" ∷ codes "hr" ∷
    codes "img" ∷ codes "input" ∷ codes "link" ∷ codes "meta" ∷ codes "param" ∷ codes "source" ∷
    codes "track" ∷ codes "wbr" ∷ []

abbrev pub is_void : List ℕ → Bool
is_void name = list_any (λ void. bytes_eq void name) void_names

-- the attributes whose value is a script (8.1.8.2, "Event handlers", those of this profile)
abbrev pub handler_names : List (List ℕ)
handler_names =
    codes "onabort" ∷ codes "onblur" ∷ codes "onchange" ∷ codes "onclick" ∷ codes "ondblclick" ∷
    codes "onerror" ∷ codes "onfocus" ∷ codes "oninput" ∷ codes "onkeydown" ∷
    codes "onkeypress" ∷ codes "onkeyup" ∷ codes "onload" ∷ codes "onmousedown" ∷
    codes "onmousemove" ∷ codes "onmouseout" ∷ codes "onmouseover" ∷ codes "onmouseup" ∷
    codes "onreadystatechange" ∷ codes "onsubmit" ∷ []

-- an attribute whose value is a script; a name in ASCII has the same bytes and units, so this is
-- said of either
abbrev pub is_handler : List ℕ → Bool
is_handler name = list_any (λ handler. bytes_eq handler name) handler_names

-- the value of the attribute of this name
abbrev pub value_named : List ℕ → List Attribute → Option (List ℕ)
value_named name [] = None
value_named name (a ∷ more) = if bytes_eq a.name name then Some a.value else value_named name more

-- a script of this type is run
abbrev pub is_type_run : Option (List ℕ) → Bool
is_type_run None = true
is_type_run (Some value) =
    bytes_eq (lower value) []
    || (bytes_eq (lower value) (codes "text/javascript")
    || bytes_eq (lower value) (codes "application/javascript"))

-- an element with this name and these attributes is a script that is run
abbrev pub is_run : List ℕ → List Attribute → Bool
is_run name attributes =
    bytes_eq name (codes "script") && is_type_run (value_named (codes "type") attributes)

-- the first attribute of each name, where these names stood before
abbrev pub firsts : List (List ℕ) → List Attribute → List Attribute
firsts names [] = []
firsts names (a ∷ more) =
    if list_any (bytes_eq a.name) names then firsts (a.name ∷ names) more
    else a ∷ firsts (a.name ∷ names) more
