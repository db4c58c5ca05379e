-- Whether two contents are the same, package by package.
use Rattle.std.specs.Prelude.{Bool, ◌&&◌, nat_eq}
use Rattle.std.specs.Cmp.Lexicographic.{pointwise}
use Rattle.model.specs.Content.{Package, Content, same_version, same_option}
use Rattle.model.specs.Summary.{same_text}

abbrev pub same_package : Package → Package → Bool
same_package p r = same_text p.name r.name && (same_version p.version r.version && (same_option p.source r.source
    && (same_option p.checksum r.checksum && pointwise nat_eq p.list r.list)))

abbrev pub same_content : Content → Content → Bool
same_content a b = pointwise same_package a b
