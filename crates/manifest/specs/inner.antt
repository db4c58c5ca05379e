pub mod ShapeViews
