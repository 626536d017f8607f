-- The script that is inserted: nine lines, each ended by a line feed, 450 bytes.
use Rattle.std.specs.Prelude.{ℕ, List, [], ◌∷◌, ◌++◌, codes}

abbrev pub line : List ℕ → List ℕ
line text = text ++ 10 ∷ []

abbrev pub inserted_script : List ℕ
inserted_script =
    line (codes "<script id=" ++ 34 ∷ codes "$mug" ++ 34 ∷ codes ">")
    ++ line (codes "function $mug_turn(){$mug_log();}")
    ++ line (codes "function $mug_fetch(){$mug_log();}")
    ++ line (codes "function $mug_value(){var r=$mug_apply();$mug_log();return r;}")
    ++ line (codes "function $mug_timer(){$mug_wrapArg(0);var r=$mug_apply();return r;}")
    ++ line (codes "function $mug_listen(){$mug_wrapArg(1);var r=$mug_apply();return r;}")
    ++ line (codes "function $mug_put(){$mug_wrapArg(0);var r=$mug_apply();return r;}")
    ++ line
    (codes "function $mug_call(){$mug_count(1);try{return $mug_apply();}finally{$mug_count(-1);}}")
    ++ line (codes "</script>")
