mod Arrays
mod FieldsText
mod InputsText
mod PictureText
mod SliceText
