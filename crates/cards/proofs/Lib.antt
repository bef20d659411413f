mod Shows
